-- Four cells in memory, and the loan of the first of them as a slice.
use Rattle.std.proofs.Common.{◌≡◌, ℕ, ◌≤◌, List, [], ◌∷◌, ◌++◌, length, take, drop, refl, sym, ap, subst, ◌∙◌, arith, length-append, length-drop, take-append-drop}
use lib.Seq.{take_all}
use seplogic.Ra.Ura.{Ura}
use base.Logic.{SProp, ent, sep, ex}
use base.Fml.{Lft, GName, Share, fsep, feq, flft}
use base.Fraction.{full_share}
use mir.Syntax.{named}
use mir.Val.{Val}
use types.Kit.{Item, ‵, ◌⊛◌, some, later, ◌$◌, ◌∵◌, !, qed, by, move, drop as forget, split, fsplit, fsplit3, fjoin, feq_l, feq_i, use1, use2, await, pick, rewrite, group, updating, now, show, done}
use types.Logic.{Logic, sem}
use types.Mut.{open_ref}
use types.SemTy.{cells}
use denote.Array.{Array}
use denote.ArrayMemory.{Single, Array-apart, Array-whole}
use denote.Follow.{follows}
use denote.FollowSlice.{lends_Elements}
use denote.Index.{row, whole_in, whole_out}
use denote.Memory.{mem}
use denote.RattleType.{RattleType}
use denote.Ref.{MutRef}
use denote.Slice.{MutSlice, Room, slice_val}
use borrow.Table.Elements.{at, cut_app, join_app, length-take-le}
use Rattle.iloc_shortvec.specs.ShortList.{overwritten}

-- as many items as the first, before the others, are what was written
written_front : {X : Type 0} (m : ℕ) (xs ws : List X) → m ≤ length xs → length ws ≡ m →
    ws ++ drop m xs ≡ overwritten xs ws
written_front m xs ws fits count =
    let both = length-append ws (drop m xs) in
    let rest = length-drop m xs in
    sym (take_all (length xs) (ws ++ drop m xs) (omega arith))
    ∙ ap (λ k. take (length xs) (ws ++ drop k xs)) (sym count)

module _ (R : RattleType) (single : Single R.mir) {M : Type 1} {𝓤 : Ura M} (𝓛 : Logic 𝓤) (κ : Lft) (q : Share)
    (b o : ℕ) (γ : GName) (xs : List R.Denot) (m : ℕ) (within : m ≤ 4) where
  open 𝓛 use {H, A}

  abbrev Four : RattleType
  Four = Array R 4

  abbrev front : List R.Denot
  front = take m xs

  abbrev others : List R.Denot
  others = drop m xs

  abbrev cells_at : List R.Denot → ℕ → Item 𝓤
  cells_at ys p = ‵ (cells (mem R) ys b p)

  -- where the cells after the first ones begin
  abbrev after : ℕ → ℕ
  after = at o (mem R).size

  -- what is written in the first cells and what the others hold are four cells again
  four_again : length xs ≡ 4 → (ws : List R.Denot) → length ws ≡ length front
      → ent 𝓤 (sep 𝓤 (sem 𝓛 (cells (mem R) ws b o)) (sem 𝓛 (cells (mem R) others b (after (length front)))))
      (sem 𝓛 ((mem Four).own_at (overwritten xs ws) b o))
  four_again four ws count =
      let first : length front ≡ m = length-take-le m xs (omega arith) in
      let whole : ws ++ others ≡ overwritten xs ws = written_front m xs ws (omega arith) (count ∙ first) in
      let both = length-append ws others in
      let rest = length-drop m xs in
      let long = ap length whole in
      qed 𝓛 (cells_at ws o ∷ cells_at others (after (length front)) ∷ []) ∵
      rewrite ! 1 (λ (k : ℕ). cells_at others (after k)) (sym count) refl $
      use2 𝓛 (cells_at (ws ++ others) o) (join_app 𝓛 (mem R) ws others b o) $
      rewrite ! 0 (λ (ys : List R.Denot). cells_at ys o) whole refl $
      use1 𝓛 (‵ (row R full_share (overwritten xs ws) b o)) (whole_out 𝓛 R (overwritten xs ws) b o) $
      feq_i ! ℕ (length (overwritten xs ws)) 4 (omega arith) $ fjoin ! $
      by ! (Array-whole 𝓛 R full_share 4 (overwritten xs ws) b o)

  -- the slice under a new name, the token, and what the four cells end as
  abbrev pub loan : ℕ → GName → Item 𝓤
  loan k δ = ‵ ((MutSlice (named 0) κ R).own_val (record { ref_ptr = (b, o); ghost_name = δ; now = front })
      (slice_val (b, o) k ∷ []))
      ⊛ ‵ (flft κ q) ⊛ ‵ (follows Four (Array R 0) γ δ (overwritten xs))

  abbrev pub Loan : ℕ → GName → SProp 𝓤
  Loan k δ = sep 𝓤
      (sem 𝓛 ((MutSlice (named 0) κ R).own_val (record { ref_ptr = (b, o); ghost_name = δ; now = front })
      (slice_val (b, o) k ∷ []))) (sep 𝓤 (A.lft κ q) (sem 𝓛 (follows Four (Array R 0) γ δ (overwritten xs))))

  pub lends_front : Room R m → (vs : List Val)
      → ent 𝓤
      (sep 𝓤
      (sem 𝓛 ((MutRef (named 0) κ Four).own_val (record { ref_ptr = (b, o); ghost_name = γ; now = xs }) vs))
      (A.lft κ q)) (H.⇛ (ex 𝓤 (Loan m)))
  lends_front room vs =
      qed 𝓛
      (‵ ((MutRef (named 0) κ Four).own_val (record { ref_ptr = (b, o); ghost_name = γ; now = xs }) vs)
      ∷ ‵ (flft κ q) ∷ []) ∵
      updating ! $ fsplit3 ! $ forget ! $ open_ref ! tt (mem Four) {b = b} {o = o} $
      use1 𝓛 (‵ (fsep (feq ℕ (length xs) 4) (row R full_share xs b o)))
      (Array-apart 𝓛 R full_share single 4 xs b o)
      $ fsplit ! $ feq_l ! (λ four.
      let first : length front ≡ m = length-take-le m xs (omega arith) in
      use1 𝓛 (cells_at xs o) (whole_in 𝓛 R xs b o) $
      rewrite ! 0 (λ (ys : List R.Denot). cells_at ys o) (sym (take-append-drop m xs)) refl $
      use1 𝓛 (cells_at front o ⊛ cells_at others (after (length front))) (cut_app 𝓛 (mem R) front others b o)
      $ split ! $
      move ! (2 ∷ 3 ∷ 4 ∷ 0 ∷ 1 ∷ []) $ group ! 5 $
      use1 𝓛 (later (some (loan (length front))))
      (lends_Elements 𝓛 Four R (overwritten xs) (named 0) κ q b o b o γ front
      (subst (Room R) (sym first) room) (sem 𝓛 (cells (mem R) others b (after (length front))))
      (four_again four) (Four.coded.code xs) (Four.coded.code xs)) $
      await ! tt
      $ pick ! (λ δ. rewrite ! 0 (λ (k : ℕ). loan k δ) first refl $ now ! $ show ! (Loan m) δ $ done !))
