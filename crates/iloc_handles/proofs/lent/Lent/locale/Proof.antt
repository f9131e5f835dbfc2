-- `locale` follows the pointer, to the locale that is lent.
use Rattle.std.proofs.Common.{◌≡◌, List, [], ◌∷◌, refl, sym, ap, ◌∙◌}
use Rattle.std.specs.Prelude.{None, Some, ◌≢◌}
use mir.Syntax.{named}
use mir.Val.{Val, vptr}
use base.Logic.{SProp, emp}
use base.Fml.{Lft, ftrue, fhide, flft, fres}
use types.Kit.{‵, raw, ◌⊛◌, later, at_ret, ◌$◌, ◌∵◌, !, qed, by, move, keep, drop, split, join, fsplit, fsplit3, fjoin, feq_i, rewrite, use0, use1, use2, await}
use types.Run.{stop, fld, load, of_opd, addr, first, blocks, exec, returns, enter}
use types.Part.{sub, whole, look_in}
use types.ByLocal.{alloc_all, pass_all, free_all, look_at, get, through, sets, sets_last, env}
use contract.Monad.{fact, fact_i}
use contract.Running.{tables}
use denote.Exit.{no}
use denote.Laws.{Is, shows}
use denote.Memory.{cell_at, hidden_shr}
use denote.Opens.{unhide, hide}
use denote.RattleType.{owns}
use denote.RawPtr.{ptr_val}
use denote.Ref.{mut_vals, mut_Tells}
use denote.Signature.{types_at, plain, mut_ref_to}
use denote.Steps.{nothing, peeks, heard, looks, shuts}
use denote.Struct.Lending.{lent_out}
use denote.Triple.Walked.{Stays, stay_dropped, walk_of, Goes-spent_ref}
use borrow.Rule.Reshare.{ref_Share}
use Rattle.std.proofs.raw_atomic.Walks.{proved, leaves}
use Rattle.std.below.core.proofs.alloc.Shapes.{after}
use Rattle.iloc_handles.specs.Owned.{lent}
use Rattle.iloc_handles.specs.Staying.{stays}
use Rattle.iloc_handles.proofs.HandleWords.{alone}
use Rattle.iloc_handles.proofs.LentWords.{Data, lent_cases, opened, told}
use Rattle.iloc_handles.proofs.Lending.{Shown, shares_shown, shown, shown_law, stays_so}
use Rattle.iloc_handles.specs.contracts.lent.Lent as lent_type
use Rattle.iloc_handles.specs.contracts.lent.Lent.locale.{ended, clauses}
use Rattle.iloc_handles.specs.contracts.lent.Lent.locale.Key.{name as #self}
use Rattle.iloc_handles.proofs.lent.Lent.locale.Statement.{statement}
use Rattle.iloc_handles.proofs.lent.Lent.locale.Code as code

pub locale_spec : {M : Type 1} → statement M
locale_spec 𝓤 𝓛 𝓜 𝓡 wired =
    let 𝓣 = tables 𝓤 𝓛.H 𝓜 𝓡 𝓡.env in
    let c = clauses 𝓛 𝓜.mem 𝓡.returns in
    let fn = code.function in
    let R = lent_type.the_row in
    let held = plain (λ _. R) in
    let hs : Stays ended.signature.params ended.kept = (stay_dropped (mut_ref_to (0 ∷ []) tt held) no, tt) in
    proved 𝓛 ended hs c 𝓜 𝓡 (Goes-spent_ref 𝓛 1 (0 ∷ []) tt held, tt) #self fn (code.unfolded 𝓤 𝓛.H 𝓜 𝓡 wired)
    (λ κs. (mut_vals, tt)) (λ κs. (mut_Tells (named 0) κs.0 R, tt)) (λ κs qs bounds a g are.
    let b = a.0.ref_ptr.0 in let o = a.0.ref_ptr.1 in let d = a.0.now in let κ : Lft = κs.0 in
    let at : List Val = vptr b o ∷ [] in
    let z : (walk_of 𝓛 ended hs c).Ghost = ((κs, qs, bounds, a, (at, tt)), g) in
    let Post : Val → SProp 𝓤 = (walk_of 𝓛 ended hs c).post z in
    let given = (‵ (flft κ qs.0) ⊛ ‵ ftrue) ⊛ ‵ (owns (types_at ended.signature.params κs) a (at, tt)) in
    qed 𝓛 (given ∷ raw ((c κs a).requires g) ∷ []) ∵
    move ! (1 ∷ []) $ heard ! (d.value ≢ None) (λ there.
    split ! $ split ! $ move ! (2 ∷ []) $ fsplit ! $ fsplit3 ! $ keep ! (1 ∷ 2 ∷ 4 ∷ []) $
    enter ! 𝓣.C 𝓣.Λ fn at Post $ alloc_all ! (λ l. pass_all ! refl ((tt, tt), tt) $
    let Ev = env fn.locals l in
    -- the borrow is given up for a `&`, and ends as it was
    move ! (0 ∷ 1 ∷ []) $ fjoin ! $
    use2 𝓛 (later (‵ (hidden_shr Shown κ d b o)
    ⊛ (‵ (fres a.0.ghost_name (R.coded.code d)) ⊛ ‵ (flft κ qs.0))))
    (ref_Share 𝓛 Shown b o a.0.ghost_name d shown_law.shr_laws κ qs.0 (shares_shown 𝓛 κ)) $ await ! tt $
    split ! $ move ! (1 ∷ []) $ split ! $ move ! (2 ∷ []) $
    use1 𝓛 (‵ (hidden_shr Data κ (d.at, tt) b o) ⊛ ‵ (fhide (lent d.at d.value κ)))
    (lent_out 𝓛 lent_type.struct lent_type.the_codes lent_type.the_heap shown κ d b o) $
    split ! $ move ! (1 ∷ []) $ unhide ! $ lent_cases ! d.at d.value κ
    (λ is_null is_none. absurd (there is_none))
    (λ n k m is_block is_some tested. fsplit ! $ drop ! $ hide ! $ move ! (1 ∷ 3 ∷ []) $
    looks ! tt Data (opened 𝓛) (d.at, tt) b o (λ q vs. move ! (1 ∷ []) $
    peeks ! Data (Is Data) (shows 𝓛 Data) (d.at, tt) vs (λ is. move ! (1 ∷ []) $
    let word : vs ≡ alone (vptr n k) ∷ [] = told d.at vs is ∙ ap (λ p. alone (ptr_val p) ∷ []) is_block in
    let Cell = λ (us : List Val). ‵ (cell_at q Data.mir us b o) in
    rewrite ! 0 Cell word refl $ first ! $ blocks ! $
    sets ! (of_opd ! (load ! (through ! refl (fld ! refl (stop !))) (look_in ! 0 (sub ! 0 refl (whole !)))))
    refl (tt, tt) $
    sets ! (of_opd ! (get ! refl)) refl (tt, tt) $
    sets_last ! (addr ! (through ! refl (stop !))) refl (tt, tt) $
    exec ! 𝓣.C 𝓣.Λ Ev (after 1 fn.body) (at_ret Ev Post) $ sets ! (of_opd ! (get ! refl)) refl (tt, tt) $
    rewrite ! 0 Cell (sym word) refl $ shuts ! tt Data q (d.at, tt) vs b o $
    returns ! (look_at ! 0 refl) $ free_all ! refl $ keep ! (0 ∷ 2 ∷ 3 ∷ []) $
    -- what is left: the token, the reference, and what the borrow ends as
    nothing ! $ move ! (1 ∷ 0 ∷ []) $ join ! $ move ! (1 ∷ []) $
    feq_i ! (List Val) (vptr n k ∷ []) (vptr n k ∷ []) refl $ fjoin ! $
    move ! (2 ∷ []) $ use1 𝓛 (‵ (stays a.0)) (stays_so 𝓛 a.0) $
    use0 𝓛 (raw (fact 𝓤 (d.value ≡ Some m))) (fact_i 𝓤 (d.value ≡ Some m) (emp 𝓤) is_some) $
    move ! (1 ∷ 0 ∷ []) $ join ! $
    nothing ! $ nothing ! $ fjoin ! $ keep ! (3 ∷ 0 ∷ 2 ∷ 1 ∷ []) $
    by ! (leaves 𝓛 ended hs c z (vptr n k) (record { ref_ptr = (n, k); now = m }) (tt, tt) (tt, tt))))))))
