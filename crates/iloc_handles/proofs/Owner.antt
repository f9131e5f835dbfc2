-- How the owner of a handle makes loans, and has the locale back. Assumes `Logic`.
--     lends_out     what a handle owns is lent for a new lifetime, until it ends; its token the owner has
--     cuts          of the token that is left, the next reader has a part
--     loans         so a reader has what a loan owns, and the owner lends on
use Rattle.std.proofs.Common.{ℕ, ◌^◌, ◌<◌, [], ◌∷◌}
use seplogic.Ra.Ura.{Ura}
use mir.Raw.{raw as bare}
use base.Fraction.{full_share}
use base.Fml.{Lft, Fml, Incl-refl, ftrue, ffalse, flt, fbor, flft}
use base.Logic.{ent, sep, ex, wand, guard, apply∗}
use contract.BorrowLft.{⊑_static}
use types.Logic.{Logic, sem, lfts}
use types.Kit.{‵, raw, given, later, ◌⊛◌, ◌$◌, ◌∵◌, !, qed, move, split, learn, use1, use2, await, updating, now, show, flt_i, fjoin, done}
use types.Tokens.{lft_new, bor_new}
use denote.Memory.{lone}
use denote.RawPtr.{Ptr, block_ptr, null_ptr, Testable}
use denote.Sharing.{said, beside}
use denote.SharingLaws.{contraction}
use denote.Struct.Lending.{Lends, Lends-false, Lends-first, Lends-lies, Lends-nothing, lent_at}
use Rattle.std.specs.Ptr.{points_to}
use Rattle.std.specs.Prelude.{Option, None, Some, suc}
use Rattle.iloc_locale.specs.declared.locale.Locale.{Locale}
use Rattle.iloc_locale.specs.contracts.locale.Locale as locale
use Rattle.iloc_locale.proofs.locale.Locale.TheLaws as locale_laws
use Rattle.iloc_handles.specs.Owned.{heap, left_after, lent, loan_owns, may_free, owned, share_of}
use Rattle.iloc_handles.proofs.HandleWords.{owns_box, may_test}
use Rattle.iloc_handles.proofs.Lending.{lent_laws}

module _ {M : Type 1} {𝓤 : Ura M} (𝓛 : Logic 𝓤) where
  open 𝓛 use {H, A}

  -- a fact that what is borrowed shows is known when it is lent
  Lends-knowing : (P : Fml) (X : Type 0) (t : Lft → Fml) (l : Lft)
      → ent 𝓤 (sem 𝓛 P) (guard 𝓤 X (sem 𝓛 P)) → (X → Lends 𝓛 P t l) → Lends 𝓛 P t l
  Lends-knowing P X t l shows then κ ts inc sp =
      let Back = H.⇛ (sep 𝓤 (A.bor κ P) (lfts 𝓛 ts)) in
      qed 𝓛 (‵ (fbor κ P) ∷ raw (lfts 𝓛 ts) ∷ []) ∵ updating ! $
      use2 𝓛 (later (‵ P ⊛ raw (wand 𝓤 (sem 𝓛 P) Back))) (𝓛.more.bor_acc_by κ ts P sp) $
      await ! tt $ split ! $
      use1 𝓛 (given X (‵ P)) shows $ learn ! (λ x.
      use2 𝓛 (later (‵ (fbor κ P) ⊛ raw (lfts 𝓛 ts))) (apply∗ 𝓤 (sem 𝓛 P) Back) $ await ! tt $ split ! $
      use2 𝓛 (later (‵ (t κ) ⊛ raw (lfts 𝓛 ts))) (then x κ ts inc sp) $ await ! tt $ split ! $ now ! $ done !)

  -- and may be said beside it
  Lends-saying : (P : Fml) (m n : ℕ) (t : Lft → Fml) (l : Lft) → m < n → Lends 𝓛 P t l
      → Lends 𝓛 P (beside (said (flt m n)) t) l
  Lends-saying P m n t l less lends κ ts inc sp =
      qed 𝓛 (‵ (fbor κ P) ∷ raw (lfts 𝓛 ts) ∷ []) ∵ updating ! $
      use2 𝓛 (later (‵ (t κ) ⊛ raw (lfts 𝓛 ts))) (lends κ ts inc sp) $ await ! tt $ split ! $
      flt_i ! m n less $ fjoin ! $ now ! $ done !

  -- what a handle owns is lent so
  Lends-owned : (p : Ptr) (v : Option Locale) → Lends 𝓛 (owned p v) (lent p v) locale.the_row.lives
  Lends-owned null_ptr None = Lends-nothing 𝓛 ftrue locale.the_row.lives
  Lends-owned null_ptr (Some m) = Lends-false 𝓛 (said ffalse) locale.the_row.lives
  Lends-owned (block_ptr b o) None = Lends-false 𝓛 (said ffalse) locale.the_row.lives
  Lends-owned (block_ptr b o) (Some m) =
      let p = block_ptr b o in let R = locale.the_row in let l = R.lives in
      Lends-knowing (owns_box p m) (Testable p) (lent p (Some m)) l (may_test 𝓛 heap p m)
      (λ tested. Lends-saying (owns_box p m) o (2 ^ 63) (lent_at R p m) l tested
      (Lends-first 𝓛 (points_to R p m) (may_free (bare (lone R.mir)) p) (lent_at R p m) l
      (Lends-lies 𝓛 R l p m (locale_laws.the_row_laws.shares 𝓛 m))))

  -- the owner begins a lifetime, has its whole token, and the right to the locale once it is over
  pub lends_out : (p : Ptr) (v : Option Locale)
      → ent 𝓤 (sem 𝓛 (owned p v)) (H.⇛ (ex 𝓤 (λ (a : ℕ). sep 𝓤 (A.lft (a ∷ []) (left_after 0))
      (sep 𝓤 (sem 𝓛 (lent p v (a ∷ []))) (A.lent (a ∷ []) (owned p v))))))
  lends_out p v = qed 𝓛 (‵ (owned p v) ∷ []) ∵ updating ! $
      lft_new ! tt (λ a. move ! (1 ∷ []) $ bor_new ! tt (a ∷ []) $ move ! (0 ∷ 2 ∷ []) $
      use2 𝓛 (later (‵ (lent p v (a ∷ [])) ⊛ ‵ (flft (a ∷ []) full_share)))
      (Lends-owned p v (a ∷ []) ((a ∷ [], full_share) ∷ []) (⊑_static (a ∷ [])) (Incl-refl (a ∷ []))) $
      await ! tt $ split ! $ move ! (1 ∷ 0 ∷ []) $ now ! $
      show ! (λ (c : ℕ). sep 𝓤 (A.lft (c ∷ []) full_share)
      (sep 𝓤 (sem 𝓛 (lent p v (c ∷ []))) (A.lent (c ∷ []) (owned p v)))) a $ done !)

  -- of the token that is left each next reader has a part, and gives it back
  pub cuts : (a n : ℕ) → ent 𝓤 (A.lft (a ∷ []) (left_after n))
      (sep 𝓤 (A.lft (a ∷ []) (share_of n)) (A.lft (a ∷ []) (left_after (suc n))))
  cuts a n = 𝓛.lfts.lft_split (a ∷ []) (left_after n)

  pub joins : (a n : ℕ) → ent 𝓤 (sep 𝓤 (A.lft (a ∷ []) (share_of n)) (A.lft (a ∷ []) (left_after (suc n))))
      (A.lft (a ∷ []) (left_after n))
  joins a n = 𝓛.lfts.lft_join (a ∷ []) (left_after n)

  -- so the next reader has what a loan owns, and what is lent stays for others
  pub loans : (a n : ℕ) (p : Ptr) (v : Option Locale)
      → ent 𝓤 (sep 𝓤 (A.lft (a ∷ []) (share_of n)) (sem 𝓛 (lent p v (a ∷ []))))
      (sep 𝓤 (sem 𝓛 (loan_owns a n p v)) (sem 𝓛 (lent p v (a ∷ []))))
  loans a n p v = qed 𝓛 (‵ (flft (a ∷ []) (share_of n)) ∷ ‵ (lent p v (a ∷ [])) ∷ []) ∵ move ! (1 ∷ []) $
      use1 𝓛 (‵ (lent p v (a ∷ [])) ⊛ ‵ (lent p v (a ∷ [])))
      (contraction 𝓛 (lent p v) (lent_laws p v) (a ∷ [])) $
      split ! $ move ! (2 ∷ 0 ∷ []) $ fjoin ! $ done !
