-- What a `&mut` to a loan lends, of what the loan owns. Assumes `Logic`.
use Rattle.std.proofs.Common.{◌≡◌, ℕ, ◌^◌, [], ◌∷◌, refl}
use seplogic.Ra.Ura.{Ura}
use base.Fml.{Lft, Share, Fml, ftrue, ffalse, fsep, fseps, fwand, fupd, fdead, flt, fbor, flft, fres}
use base.Logic.{ent, sep, wand, upd_i, id⊢, apply∗}
use contract.BorrowLft.{meet_⊑_left, ⊑_static}
use ghost.Rules.{span, thinned}
use types.Logic.{Logic, sem, lfts}
use types.Kit.{‵, raw, ◌⊛◌, some, later, ◌$◌, ◌∵◌, !, qed, move, keep, use1, use2, split, fsplit3, fsplit, fjoin, fpack, pick, assume, suffices, await, updating, now, done}
use types.Tokens.{bor_open, obor_alter, bor_fracture, one_token}
use denote.Follow.{such_by, follows_by}
use denote.Moves.{moves_from}
use denote.Param.Shared.{copy_shared}
use denote.RattleType.{RattleType}
use denote.Ref.{MutBor}
use denote.RawPtr.{Ptr, block_ptr, null_ptr}
use denote.Shares.{Shares, Shares-less}
use denote.Sharing.{ShrLaws, said}
use denote.SharingLaws.{contraction, nothing_shr_laws, said_shr_laws, beside_shr_laws}
use denote.Steps.{nothing}
use denote.Struct.Field.{RawPtr-field}
use denote.Struct.Laws.{RawPtr-copy}
use denote.Struct.Lending.{Law, Lends, lent_at, lent_at_shr_laws, of_Lends}
use denote.Struct.Owning.{lending, row}
use Rattle.std.specs.Prelude.{Option, None, Some, ⊤}
use Rattle.iloc_handles.specs.declared.lent.Lent.{Lent}
use Rattle.iloc_locale.specs.declared.locale.Locale.{Locale}
use Rattle.iloc_handles.specs.contracts.lent.Lent as C
use Rattle.iloc_locale.specs.contracts.locale.Locale as locale
use Rattle.iloc_locale.proofs.locale.Locale.TheLaws as locale_laws
use Rattle.iloc_handles.specs.Owned.{lent, share_of}
use Rattle.iloc_handles.specs.Staying.{stays}

-- what is lent can be had twice, and for a shorter time
pub lent_laws : (p : Ptr) (l : Option Locale) → ShrLaws (lent p l)
lent_laws null_ptr None = nothing_shr_laws
lent_laws null_ptr (Some m) = said_shr_laws ffalse tt
lent_laws (block_ptr b o) None = said_shr_laws ffalse tt
lent_laws (block_ptr b o) (Some m) =
    let p = block_ptr b o in let R = locale.the_row in
    beside_shr_laws (said (flt o (2 ^ 63))) (lent_at R p m) (said_shr_laws (flt o (2 ^ 63)) tt)
    (lent_at_shr_laws R locale_laws.the_row_laws.shr_laws p m)

-- a share of a lifetime's token, with what is lent for that lifetime, is lent for as long as the share is
-- borrowed
module _ {M : Type 1} {𝓤 : Ura M} (𝓛 : Logic 𝓤) (t : Lft → Fml)
    (L : ShrLaws t) (a : ℕ) (e : Share) where
  open 𝓛 use {H, A}

  abbrev Owns : Fml
  Owns = fsep (flft (a ∷ []) e) (t (a ∷ []))

  abbrev Again : Lft → Fml
  Again κ = fwand (fsep (fdead κ) (fseps (flft (a ∷ []) e ∷ []))) (fupd Owns)

  again : (κ : Lft) → ent 𝓤 (sem 𝓛 (t (a ∷ []))) (sem 𝓛 (Again κ))
  unfolding fseps
  again κ = qed 𝓛 (‵ (t (a ∷ [])) ∷ []) ∵ assume ! (‵ (fsep (fdead κ) (fsep (flft (a ∷ []) e) ftrue))) $
      suffices ! (sem 𝓛 Owns) (upd_i 𝓤 (sem 𝓛 Owns)) $ fsplit3 ! $ keep ! (1 ∷ 3 ∷ []) $ fjoin ! $ done !

  by_token : (κ : Lft) (q : Share)
      → ent 𝓤 (sep 𝓤 (A.bor κ Owns) (A.lft κ q)) (H.⇛ (sep 𝓤 (sem 𝓛 (t κ)) (A.lft κ q)))
  unfolding fseps
  by_token κ q = qed 𝓛 (‵ (fbor κ Owns) ∷ ‵ (flft κ q) ∷ []) ∵ updating ! $
      bor_open ! tt $ move ! (1 ∷ []) $ fsplit ! $ move ! (1 ∷ []) $
      use1 𝓛 (‵ (t (a ∷ [])) ⊛ ‵ (t (a ∷ []))) (contraction 𝓛 t L (a ∷ [])) $ split ! $
      use1 𝓛 (‵ (Again κ)) (again κ) $ nothing ! $ move ! (3 ∷ 0 ∷ []) $ fjoin ! $
      move ! (3 ∷ 0 ∷ 1 ∷ []) $ obor_alter ! tt (flft (a ∷ []) e ∷ []) $
      use1 𝓛 (‵ (fbor κ (flft (a ∷ []) e)) ⊛ ‵ ftrue) (id⊢ 𝓤 _) $ split ! $
      bor_fracture ! tt (λ r. flft (a ∷ []) r) e $ move ! (0 ∷ 3 ∷ []) $
      use2 𝓛 (‵ (t κ)) (moves_from 𝓛 t L κ (a ∷ []) (a ∷ []) (meet_⊑_left (a ∷ []) κ)) $
      now ! $ keep ! (0 ∷ 2 ∷ []) $ done !

  Lends-loan : (l : Lft) → Lends 𝓛 (fsep (flft (a ∷ []) e) (t (a ∷ []))) t l
  Lends-loan l κ ts inc sp = qed 𝓛 (‵ (fbor κ Owns) ∷ raw (lfts 𝓛 ts) ∷ []) ∵ updating ! $ move ! (1 ∷ []) $
      use1 𝓛 (some (λ (q : Share). ‵ (flft (span ts) q) ⊛ raw (wand 𝓤 (A.lft (span ts) q) (lfts 𝓛 ts))))
      (one_token 𝓛 ts) $ pick ! (λ q. split ! $
      use1 𝓛 (‵ (flft κ (thinned κ q)) ⊛ raw (wand 𝓤 (A.lft κ (thinned κ q)) (A.lft (span ts) q)))
      (𝓛.lfts.lft-incl (span ts) κ q sp) $ split ! $ move ! (3 ∷ 0 ∷ []) $
      use2 𝓛 (later (‵ (t κ) ⊛ ‵ (flft κ (thinned κ q)))) (by_token κ (thinned κ q)) $ await ! tt $ split ! $
      move ! (1 ∷ 2 ∷ []) $
      use2 𝓛 (‵ (flft (span ts) q)) (apply∗ 𝓤 (A.lft κ (thinned κ q)) (A.lft (span ts) q)) $
      move ! (0 ∷ 2 ∷ []) $ use2 𝓛 (raw (lfts 𝓛 ts)) (apply∗ 𝓤 (A.lft (span ts) q) (lfts 𝓛 ts)) $
      now ! $ move ! (1 ∷ 0 ∷ []) $ done !)

-- what is lent of a loan, as `also_shares` would say it: no export may take a struct that has one
abbrev pub shown : Lent → Ptr → Lft → Fml
shown d _ κ = lent d.at d.value κ

-- the type of a loan, as it would be with that
abbrev pub Shown : RattleType
Shown = row (lending C.struct C.the_codes C.the_heap shown)

pub shown_law : Law Shown
shown_law = of_Lends C.struct C.the_codes C.the_heap shown (λ d p. lent_laws d.at d.value)
    (copy_shared RawPtr-field RawPtr-copy, tt)
    (λ M 𝓤 𝓛 d p. Lends-loan 𝓛 (lent d.at d.value) (lent_laws d.at d.value)
    d.life (share_of d.part) Shown.lives)

module _ {M : Type 1} {𝓤 : Ura M} (𝓛 : Logic 𝓤) where
  open 𝓛 use {H, A}

  pub shares_shown : (κ : Lft) → Shares 𝓛 Shown κ
  shares_shown κ = Shares-less 𝓛 Shown Shown.lives κ (⊑_static κ) (shown_law.shares M 𝓤 𝓛)

  -- a loan of which the last value is known stays
  pub stays_so : (r : MutBor Lent) → ent 𝓤 (A.res r.ghost_name (C.the_row.coded.code r.now)) (sem 𝓛 (stays r))
  unfolding such_by follows_by
  stays_so r =
      let same : (Lent → Lent) × Lent = ((λ w. w), r.now) in
      qed 𝓛 (‵ (fres r.ghost_name (C.the_row.coded.code r.now)) ∷ []) ∵
      fpack ! ((s : (Lent → Lent) × Lent) × ((w : Lent) → ⊤) × (s.1 ≡ r.now))
      (λ s. fres r.ghost_name (C.the_row.coded.code s.0.1)) (same, (λ w. tt), refl) $ done !
