-- `is_empty` opens the borrow, compares the pointer with null, and closes it as it was.
use Rattle.std.proofs.Common.{◌≡◌, List, [], ◌∷◌, refl, sym, ap, ◌∙◌, lit<, rules}
use Rattle.std.specs.Prelude.{true, false, None, Some, IsTrue, ◌↔◌}
use mir.Syntax.{named}
use mir.Val.{Val, vptr, vnull, vbool}
use base.Fraction.{full_share}
use base.Logic.{SProp, emp}
use base.Fml.{ftrue, flft}
use types.Kit.{‵, raw, ◌⊛◌, ◌$◌, ◌∵◌, !, qed, by, move, keep, drop, split, join, fsplit, fsplit3, fjoin, fjoin3, feq_i, rewrite, use0}
use types.Run.{stop, fld, load, lit, of_opd, bin, returns, enter}
use types.Part.{sub, whole, look_in}
use types.ByLocal.{alloc_all, pass_all, free_all, look_at, get, through, sets}
use contract.Monad.{fact, fact_i}
use contract.Running.{tables}
use denote.RattleType.{owns}
use denote.Memory.{cell_at}
use denote.RawPtr.{block_ptr, null_ptr, ptr_val, tests_null}
use denote.Ref.{mut_vals, mut_Tells}
use denote.Signature.{types_at, plain}
use denote.Steps.{nothing, opens, closes}
use denote.Triple.Walked.{Stays, stay_ref, walk_of, Goes-ref}
use Rattle.std.proofs.raw_atomic.Walks.{proved, leaves}
use Rattle.iloc_handles.specs.Owned.{heap}
use Rattle.iloc_handles.proofs.HandleWords.{alone, look_in as look_at_handle, make, two_cases}
use Rattle.iloc_handles.specs.contracts.handle.Handle as handle
use Rattle.iloc_handles.specs.contracts.handle.Handle.is_empty.{ended, clauses}
use Rattle.iloc_handles.specs.contracts.handle.Handle.is_empty.Key.{name as #self}
use Rattle.iloc_handles.proofs.handle.Handle.is_empty.Statement.{statement}
use Rattle.iloc_handles.proofs.handle.Handle.is_empty.Code as code

pub is_empty_spec : {M : Type 1} → statement M
is_empty_spec 𝓤 𝓛 𝓜 𝓡 wired =
    let 𝓣 = tables 𝓤 𝓛.H 𝓜 𝓡 𝓡.env in
    let c = clauses 𝓛 𝓜.mem 𝓡.returns in
    let fn = code.function in
    let held = plain (λ _. handle.the_row) in
    let hs : Stays ended.signature.params ended.kept = (stay_ref (0 ∷ []) tt held, tt) in
    proved 𝓛 ended hs c 𝓜 𝓡 (Goes-ref 𝓛 1 0 tt held, tt) #self fn (code.unfolded 𝓤 𝓛.H 𝓜 𝓡 wired)
    (λ κs. (mut_vals, tt)) (λ κs. (mut_Tells (named 0) κs.0 handle.the_row, tt)) (λ κs qs bounds a g are.
    let b = a.0.ref_ptr.0 in let o = a.0.ref_ptr.1 in let d = a.0.now in
    let at : List Val = vptr b o ∷ [] in
    let z : (walk_of 𝓛 ended hs c).Ghost = ((κs, qs, bounds, a, (at, tt)), g) in
    let Post : Val → SProp 𝓤 = (walk_of 𝓛 ended hs c).post z in
    let given = (‵ (flft κs.0 qs.0) ⊛ ‵ ftrue) ⊛ ‵ (owns (types_at ended.signature.params κs) a (at, tt)) in
    qed 𝓛 (given ∷ raw ((c κs a).requires g) ∷ []) ∵
    split ! $ split ! $ move ! (2 ∷ []) $ fsplit ! $ fsplit3 ! $ drop ! $ move ! (0 ∷ 1 ∷ 3 ∷ []) $
    enter ! 𝓣.C 𝓣.Λ fn at Post $ alloc_all ! (λ l. pass_all ! refl ((tt, tt), tt) $
    move ! (0 ∷ 1 ∷ 2 ∷ []) $ opens ! tt handle.the_row {h = d} b o (λ vs. move ! (1 ∷ []) $
    look_at_handle ! d vs (λ ws. two_cases ! heap d.at d.value
    -- null: the answer is true
    (λ is_null is_none.
    let h : handle.the_row.Denot = record { at = null_ptr; value = None } in
    rewrite ! 0 (λ (us : List Val). ‵ (cell_at full_share handle.the_row.mir us b o))
    (ws ∙ ap (λ p. alone (ptr_val p) ∷ []) is_null) refl $
    sets ! (of_opd ! (load ! (through ! refl (fld ! refl (stop !))) (look_in ! 0 (sub ! 0 refl (whole !)))))
    refl
    (tt, record { fits = lit< tt }) $
    sets ! (bin ! (get ! refl) (lit ! tt) tt) refl (tt, tt) $
    nothing ! $ make ! null_ptr None $ move ! (1 ∷ 0 ∷ [])
    $ closes ! tt handle.the_row h (alone vnull ∷ []) b o $
    returns ! (look_at ! 0 refl) $ free_all ! refl $ keep ! (0 ∷ 1 ∷ 2 ∷ []) $
    -- what is left: the borrow, its token, the answer and both clauses
    feq_i ! (List Val) at at refl $ fjoin3 ! $ nothing ! $ move ! (1 ∷ 0 ∷ []) $ fjoin ! $
    move ! (1 ∷ []) $ nothing ! $ move ! (1 ∷ 0 ∷ []) $ join ! $
    feq_i ! (List Val) (vbool true ∷ []) (vbool true ∷ []) refl $
    use0 𝓛 (raw (fact 𝓤 (IsTrue true ↔ (d.value ≡ None))))
    (fact_i 𝓤 (IsTrue true ↔ (d.value ≡ None)) (emp 𝓤) (search rules)) $
    use0 𝓛 (raw (fact 𝓤 (None ≡ d.value))) (fact_i 𝓤 (None ≡ d.value) (emp 𝓤) (sym is_none)) $ join ! $
    keep ! (2 ∷ 3 ∷ 1 ∷ 0 ∷ []) $ by ! (leaves 𝓛 ended hs c z (vbool true) true (h, tt) (tt, tt)))
    -- a block: the answer is false
    (λ n k m is_block is_some tested.
    let h : handle.the_row.Denot = record { at = block_ptr n k; value = Some m } in
    move ! (1 ∷ []) $ rewrite ! 0 (λ (us : List Val). ‵ (cell_at full_share handle.the_row.mir us b o))
    (ws ∙ ap (λ p. alone (ptr_val p) ∷ []) is_block) refl $
    sets ! (of_opd ! (load ! (through ! refl (fld ! refl (stop !))) (look_in ! 0 (sub ! 0 refl (whole !)))))
    refl
    (tt, tt) $
    sets ! (bin ! (get ! refl) (lit ! tt) (tests_null (block_ptr n k) tested)) refl (tt, tt) $
    move ! (1 ∷ []) $ make ! (block_ptr n k) (Some m) $ move ! (1 ∷ 0 ∷ []) $
    closes ! tt handle.the_row h (alone (vptr n k) ∷ []) b o $
    returns ! (look_at ! 0 refl) $ free_all ! refl $ keep ! (0 ∷ 1 ∷ 2 ∷ []) $
    -- what is left
    feq_i ! (List Val) at at refl $ fjoin3 ! $ nothing ! $ move ! (1 ∷ 0 ∷ []) $ fjoin ! $
    move ! (1 ∷ []) $ nothing ! $ move ! (1 ∷ 0 ∷ []) $ join ! $
    feq_i ! (List Val) (vbool false ∷ []) (vbool false ∷ []) refl $
    use0 𝓛 (raw (fact 𝓤 (IsTrue false ↔ (d.value ≡ None))))
    (fact_i 𝓤 (IsTrue false ↔ (d.value ≡ None)) (emp 𝓤) (grind (rules, is_some))) $
    use0 𝓛 (raw (fact 𝓤 (Some m ≡ d.value))) (fact_i 𝓤 (Some m ≡ d.value) (emp 𝓤) (sym is_some)) $ join ! $
    keep ! (2 ∷ 3 ∷ 1 ∷ 0 ∷ []) $ by ! (leaves 𝓛 ended hs c z (vbool false) false (h, tt) (tt, tt)))))))
