-- The walk of `front_mut`. The borrow checker lends the first cells with what they leave exactly as it was
-- written, at any length; a contract that keeps the count of the cells is proved here.
use Rattle.std.proofs.Common.{◌≤◌, ◌<◌, ◌^◌, [], ◌∷◌, refl, arith, take, w64}
use Rattle.std.proofs.raw_atomic.Walks.{proved}
use base.Fml.{ftrue, flft}
use contract.BorrowLft.{◌⊑◌}
use mir.MapTy.{inst_fn}
use mir.Syntax.{Args, a_type, named}
use mir.Val.{vint}
use prog.Memory.{size}
use native.Mathlib.Nat.{mul-le-mul_right}
use types.Kit.{‵, ◌⊛◌, given, some, later, ◌$◌, ◌∵◌, !, qed, move, keep, drop, split, split3, join, learn, fsplit, fjoin, use2, await, pick, suffices, frame, done}
use types.Part.{agg}
use types.Run.{addr, stop, and_then, no_more, returns, enter}
use types.ByLocal.{alloc_all, pass_all, free_all, look_at, get, through, sets}
use denote.Array.{Array}
use denote.Builtin.{RefMutOf, ArrayOf, usize}
use denote.Exit.{yes, no}
use denote.Param.{param, layout, layouts}
use denote.Plain.{uint_vals, uint_Tells}
use denote.RattleType.{RattleType, owns}
use denote.Ref.{MutRef, mut_vals, mut_Tells}
use denote.Signature.{plain}
use denote.Slice.{slice_val}
use denote.Steps.{nothing}
use denote.Triple.Walked.{Stays, says, stay_dropped, walk_of, ends_at, Goes-dropped, Goes-spent_ref}
use Rattle.iloc_shortvec.specs.contracts.front.front_mut as f
use Rattle.iloc_shortvec.proofs.front.front_mut.Statement.{statement}
use Rattle.iloc_shortvec.proofs.front.front_mut.Code as code
use Rattle.iloc_shortvec.proofs.FrontLoan.{loan, lends_front}

module _ (X : RattleType) where
  abbrev at_item : Args
  at_item = layouts (a_type ∷ []) (X, tt)

  -- an item, and four of them
  abbrev Item : RattleType
  Item = param 0 X

  abbrev Four : RattleType
  Four = Array Item 4

  abbrev stayed : Stays (f.ended X).signature.params (f.ended X).kept
  stayed = (
    stay_dropped (RefMutOf (0 ∷ []) tt (ArrayOf (plain (λ _. Item)) (λ _. tt) 4) (λ _. tt)) no,
    (stay_dropped (plain (λ _. usize)) yes, tt),
  )

pub front_mut_spec : {M : Type 1} → statement M
front_mut_spec 𝓤 𝓛 𝓜 𝓡 wired X laws =
    let c = f.clauses X 𝓛 𝓜.mem 𝓡.returns in
    let W = walk_of 𝓛 (f.ended X) (stayed X) c in
    proved 𝓛 (f.ended X) (stayed X) c 𝓜 𝓡 (
      Goes-spent_ref 𝓛 2 (0 ∷ []) tt (ArrayOf (plain (λ _. Item X)) (λ _. tt) 4),
      (Goes-dropped 𝓛 2 (plain (λ _. usize)) yes (λ κs x n. refl), tt),
    )
    (f.Key.name (at_item X)) (inst_fn (at_item X) code.function) (code.unfolded 𝓤 𝓛.H 𝓜 𝓡 wired (X, tt))
    (λ κs. (mut_vals, (uint_vals w64, tt))) (λ κs. (mut_Tells (named 0) κs.0 (Four X), (uint_Tells w64, tt)))
    (λ κs qs bounds a ghost are.
    let cells = a.0 in let len = a.1.0 in let b = cells.ref_ptr.0 in let o = cells.ref_ptr.1 in
    let y : W.Ghost = ((κs, qs, bounds, a, (mut_vals cells, (vint w64 len ∷ [], tt))), tt) in
    qed 𝓛 (((‵ (flft κs.0 qs.0) ⊛ ‵ (flft κs.1.0 qs.1.0) ⊛ ‵ ftrue)
    ⊛ ‵ (owns (MutRef (named 0) κs.0 (Four X) ∷ usize ∷ []) (cells, (len, tt)) y.0.4))
    ∷ (given (κs.1.0 ⊑ X.lives) (‵ ftrue) ⊛ given (size (layout (Four X)) < 2 ^ 63) (‵ ftrue)
    ⊛ given (len ≤ 4) (‵ ftrue))
    ∷ []) ∵
    move ! (1 ∷ []) $ split3 ! $ drop ! $ learn ! (λ small. drop ! $ learn ! (λ within. drop ! $
    split ! $
    enter ! _ _ _ _ _
    $ alloc_all ! (λ l. pass_all ! refl ((tt, tt), ((tt, record { fits = are.1.0.1 }), tt)) $
    sets ! (addr ! (through ! refl (stop !))) refl (tt, tt) $
    sets ! (agg ! (and_then ! (get ! refl) (and_then ! (get ! refl) (no_more !)))) refl
    (tt, (tt, (record { fits = are.1.0.1 }, tt))) $
    split ! $ move ! (2 ∷ []) $ fsplit ! $ move ! (0 ∷ 2 ∷ []) $
    use2 𝓛 (later (some (loan (Item X) tt 𝓛 κs.0 qs.0 b o cells.ghost_name cells.now len within len)))
    (lends_front (Item X) tt 𝓛 κs.0 qs.0 b o cells.ghost_name cells.now len within
    (omega arith, omega (arith, mul-le-mul_right (size (layout X)) within)) (mut_vals cells)) $
    await ! tt $ pick ! (λ δ.
    returns ! (look_at ! 0 refl) $ free_all ! refl $
    -- [the loan; the length; the other token]
    keep ! (0 ∷ 2 ∷ []) $ split3 ! $
    suffices ! _
    (ends_at 𝓛 (f.ended X) (stayed X) c y (slice_val (b, o) len)
    (record { ref_ptr = (b, o); ghost_name = δ; now = take len cells.now }) (tt, (tt, tt)) (tt, (tt, tt))) $
    -- nothing is left of the parameters; beside it the slice, and before both the tokens
    nothing ! $ nothing ! $ fjoin ! $ nothing ! $ fjoin ! $ join ! $ move ! (1 ∷ 3 ∷ []) $ join ! $ join !
    $ frame ! $ says ! refl $ done !)))))
