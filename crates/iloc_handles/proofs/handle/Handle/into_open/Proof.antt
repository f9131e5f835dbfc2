-- `into_open` compares the pointer with null, and gives back what it owns.
use Rattle.std.proofs.Common.{◌≡◌, List, [], ◌∷◌, ◌++◌, refl, sym, ap, ◌∙◌, subst, lit<}
use mir.Val.{Val, vptr, vnull, vcons, vnil}
use base.Logic.{SProp, ent, emp, id⊢}
use base.Fml.{ftrue}
use prog.Wp.{WpFn}
use types.Kit.{‵, raw, ◌⊛◌, at_ret, ◌$◌, ◌∵◌, !, qed, by, move, keep, split, join, fsplit, fjoin, suffices, use0, use1}
use types.Run.{stop, fld, lit, of_opd, bin, no_more, and_then, first, branches, exec, returns, enter}
use types.ByLocal.{alloc_all, pass_all, free_all, look_at, get, get_in, sets, sets_last, env}
use types.Match.{live}
use types.Part.{agg, sub, whole}
use contract.Monad.{fact, fact_i}
use contract.Running.{tables}
use denote.Exit.{yes}
use denote.Param.{layout}
use denote.RattleType.{RattleType, owns}
use denote.RawPtr.{block_ptr, null_ptr, ptr_val, tests_null}
use denote.Signature.{types_at, type_at, plain}
use denote.Steps.{nothing}
use denote.Triple.Walked.{Stays, stay_dropped, walk_of, Goes-dropped}
use Rattle.std.specs.Prelude.{None, Some}
use Rattle.std.proofs.raw_atomic.Walks.{proved_at, leaves}
use Rattle.std.below.core.proofs.alloc.Calls.{handle_tells}
use Rattle.std.below.core.proofs.alloc.Shapes.{after}
use Rattle.std.below.core.proofs.cell.Inside.{Good}
use Rattle.std.below.core.proofs.option.Made.{Some-of, none_of}
use Rattle.std_alloc.proofs.ResultValues.{and_tt}
use Rattle.iloc_handles.proofs.OpenBoxWords.{opened, allocator, beside, beside_fits, put_together}
use Rattle.iloc_handles.proofs.HandleWords.{boxed, alone, pointer_fits, look_in, two_cases}
use Rattle.iloc_handles.specs.contracts.handle.Handle as handle
use Rattle.iloc_handles.specs.contracts.handle.Handle.into_open.{ended, clauses}
use Rattle.iloc_handles.specs.contracts.handle.Handle.into_open.Key.{name as #self}
use Rattle.iloc_handles.proofs.handle.Handle.into_open.Statement.{statement}
use Rattle.iloc_handles.proofs.handle.Handle.into_open.Code as code

pub into_open_spec : {M : Type 1} → statement M
into_open_spec 𝓤 𝓛 𝓜 𝓡 wired =
    let 𝓣 = tables 𝓤 𝓛.H 𝓜 𝓡 𝓡.env in
    let c = clauses 𝓛 𝓜.mem 𝓡.returns in
    let fn = code.function in
    let Open = opened boxed in
    let held = plain (λ _. handle.the_row) in let heap = plain (λ _. boxed.heap) in
    let hs : Stays ended.signature.params ended.kept = (stay_dropped held yes, (stay_dropped heap yes, tt)) in
    proved_at 𝓛 ended hs c 𝓜 𝓡
    (Goes-dropped 𝓛 0 held yes (λ κs x f. refl), (Goes-dropped 𝓛 0 heap yes (λ κs x f. refl), tt)) #self fn
    (code.unfolded 𝓤 𝓛.H 𝓜 𝓡 wired) (λ z are.
    let d = z.0.3.0 in let a = z.0.3.1.0 in
    let Post : Val → SProp 𝓤 = (walk_of 𝓛 ended hs c).post z in
    let Run : List Val → SProp 𝓤 = λ ws. WpFn 𝓤 𝓛.H 𝓣.C 𝓣.Λ fn ws Post in
    let Out : RattleType = type_at ended.signature.result z.0.0 in
    let given = ‵ ftrue ⊛ ‵ (owns (types_at ended.signature.params z.0.0) z.0.3 z.0.4) in
    qed 𝓛 (given ∷ raw ((c z.0.0 z.0.3).requires z.1) ∷ []) ∵ split ! $ move ! (1 ∷ []) $ fsplit ! $
    look_in ! d z.0.4.0 (λ ws. move ! (1 ∷ []) $ fsplit ! $
    handle_tells (allocator boxed) ! a z.0.4.1.0 (λ h bits fits. move ! (2 ∷ []) $ two_cases ! a d.at d.value
    -- null: the answer is `None`
    (λ is_null is_none.
    let w : Val = alone vnull in
    let us : z.0.4.0 ≡ w ∷ [] = ws ∙ ap (λ p. alone (ptr_val p) ∷ []) is_null in
    suffices ! (Run (w ∷ h ∷ []))
    (subst (λ (vs : List Val). ent 𝓤 (Run (w ∷ h ∷ [])) (Run vs)) (sym (λ i. us i ++ (bits i ++ [])))
    (id⊢ 𝓤 (Run (w ∷ h ∷ [])))) $
    enter ! 𝓣.C 𝓣.Λ fn (w ∷ h ∷ []) Post $
    alloc_all ! (λ l. pass_all ! refl (pointer_fits null_ptr, (fits, tt)) $ let Ev = env fn.locals l in
    sets ! (of_opd ! (get_in ! (fld ! refl (stop !)) (sub ! 0 refl (whole !)))) refl
    (tt, record { fits = lit< tt }) $
    sets ! (bin ! (get ! refl) (lit ! tt) tt) refl (tt, tt) $ first ! $ branches ! (get ! refl)
    (λ _. sets_last ! (agg ! (and_then ! (lit ! tt) (no_more !))) refl (tt, (record { fits = lit< tt }, tt)) $
    exec ! 𝓣.C 𝓣.Λ Ev (after 3 fn.body) (at_ret Ev Post) $
    sets ! (of_opd ! (get ! refl)) refl (tt, (record { fits = lit< tt }, tt)) $
    use0 𝓛 (‵ (Out.own_val None (live 0 vnil ∷ []))) (none_of 𝓛 Open) $
    use0 𝓛 (raw (fact 𝓤 (Unit {0}))) (fact_i 𝓤 (Unit {0}) (emp 𝓤) tt) $
    use0 𝓛 (raw (fact 𝓤 (d.value ≡ None))) (fact_i 𝓤 (d.value ≡ None) (emp 𝓤) is_none) $ join ! $
    nothing ! $ nothing ! $ fjoin ! $ nothing ! $ fjoin ! $
    returns ! (look_at ! 0 refl) $ free_all ! refl $ keep ! (5 ∷ 0 ∷ 2 ∷ 1 ∷ []) $
    by ! (leaves 𝓛 ended hs c z (live 0 vnil) None (tt, (tt, tt)) (tt, (tt, tt))))
    (λ wrong. absurd wrong)))
    -- a block: the answer is the pointer beside the allocator
    (λ b o m is_block is_some tested.
    let w : Val = alone (vptr b o) in
    let us : z.0.4.0 ≡ w ∷ [] = ws ∙ ap (λ p. alone (ptr_val p) ∷ []) is_block in
    let made : Val = beside b o h in let typed = beside_fits boxed b o h fits in
    let some : Val = live 1 (vcons made vnil) in
    let parts : Open.Denot = record { at = block_ptr b o; alloc = a; value = m } in
    let good : Good (layout Out) some = (and_tt _ typed.0, (record { fits = lit< tt }, (typed.1, tt))) in
    suffices ! (Run (w ∷ h ∷ []))
    (subst (λ (vs : List Val). ent 𝓤 (Run (w ∷ h ∷ [])) (Run vs)) (sym (λ i. us i ++ (bits i ++ [])))
    (id⊢ 𝓤 (Run (w ∷ h ∷ [])))) $
    enter ! 𝓣.C 𝓣.Λ fn (w ∷ h ∷ []) Post $
    alloc_all ! (λ l. pass_all ! refl (pointer_fits (block_ptr b o), (fits, tt)) $ let Ev = env fn.locals l in
    sets ! (of_opd ! (get_in ! (fld ! refl (stop !)) (sub ! 0 refl (whole !)))) refl (tt, tt) $
    sets ! (bin ! (get ! refl) (lit ! tt) (tests_null (block_ptr b o) tested)) refl (tt, tt) $ first ! $
    branches ! (get ! refl) (λ wrong. absurd wrong) (λ _.
    sets ! (of_opd ! (get ! refl)) refl (tt, tt) $
    sets ! (agg ! (and_then ! (get ! refl) (and_then ! (get ! refl) (no_more !)))) refl typed $
    sets_last ! (agg ! (and_then ! (lit ! tt) (and_then ! (get ! refl) (no_more !)))) refl good $
    exec ! 𝓣.C 𝓣.Λ Ev (after 3 fn.body) (at_ret Ev Post) $ sets ! (of_opd ! (get ! refl)) refl good $
    put_together boxed ! b o h a m
    $ use1 𝓛 (‵ (Out.own_val (Some parts) (some ∷ []))) (Some-of 𝓛 Open parts made) $
    use0 𝓛 (raw (fact 𝓤 (d.value ≡ Some m))) (fact_i 𝓤 (d.value ≡ Some m) (emp 𝓤) is_some) $
    use0 𝓛 (raw (fact 𝓤 (Unit {0}))) (fact_i 𝓤 (Unit {0}) (emp 𝓤) tt) $ join ! $
    nothing ! $ nothing ! $ fjoin ! $ nothing ! $ fjoin ! $
    returns ! (look_at ! 0 refl) $ free_all ! refl $ keep ! (4 ∷ 0 ∷ 2 ∷ 1 ∷ []) $
    by ! (leaves 𝓛 ended hs c z some (Some parts) (tt, (tt, tt)) (tt, (tt, tt)))))))))
