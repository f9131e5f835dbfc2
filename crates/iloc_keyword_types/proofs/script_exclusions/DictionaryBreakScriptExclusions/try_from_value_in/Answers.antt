use Rattle.std.proofs.Common.{◌<◌, ◌+◌, List, length, refl, sym, ap, ◌∙◌, subst, arith}
use Rattle.iloc_memory.specs.Refusals.{RefusedWithin}
use Rattle.iloc_memory.proofs.Within.{within_more}
use Rattle.std.proofs.lemmas.Result.{err_from_is_err_and}
use Rattle.iloc_spec_parts.specs.Keywords.{scripts_read}
use Rattle.iloc_keyword_types.proofs.ScriptLemmas.{none_before, takes_script, refuses_word, ends, lengthens, no_room}
use Rattle.iloc_keyword_types.proofs.script_exclusions.DictionaryBreakScriptExclusions.try_from_value_in.Goals as goal
use Rattle.iloc_spec_grammar.specs.Syntax.{Text}

pub loop-subtag-init : goal.loop-subtag-init
loop-subtag-init g c =
    rw c.new-scripts.ensures (none_before (scripts_read c.as_subtags_slice-subtags.result.now), refl)

pub returns-in_default-clause-reads : goal.returns-in_default-clause-reads
returns-in_default-clause-reads g c =
    ap scripts_read (sym c.as_subtags_slice-subtags.ensures.subtags)
    ∙ refuses_word c.as_subtags_slice-subtags.result.now c.loop-subtag.scripts c.loop-subtag.subtag-index
    c.subtag-item.result c.loop-subtag-test.true c.subtag-item.is (sym c.in_default.ensures)
    c.loop-subtag.invariant.0

pub returns-in_err-push_in-clause-reads : goal.returns-in_err-push_in-clause-reads
returns-in_err-push_in-clause-reads g c =
    let p = err_from_is_err_and c.from_residual.result c.from_residual.ensures.1 in
    rw (p.1, p.2) (subst (λ (ws : List Text). 4 < length ws) c.as_subtags_slice-subtags.ensures.subtags
    (no_room (length c.loop-subtag.scripts) _ c.loop-subtag.subtag-index c.in_err-push_in.ensures.succeeds
    c.loop-subtag.invariant.1 c.loop-subtag-test.true))

pub loop-subtag-preserved : goal.loop-subtag-preserved
loop-subtag-preserved g c = rw c.in_ok-push_in.ensures.ok (
  takes_script c.as_subtags_slice-subtags.result.now c.loop-subtag.scripts c.loop-subtag.subtag-index
      c.subtag-item.result c.in-Some.script c.loop-subtag-test.true c.subtag-item.is (sym c.in-Some.ensures)
      c.loop-subtag.invariant.0,
  lengthens c.loop-subtag.scripts c.in-Some.script c.loop-subtag.subtag-index c.loop-subtag.invariant.1,
)

pub returns-clause-reads : goal.returns-clause-reads
returns-clause-reads g c = ap scripts_read (sym c.as_subtags_slice-subtags.ensures.subtags)
    ∙ ends c.as_subtags_slice-subtags.result.now c.loop-subtag.scripts c.loop-subtag.subtag-index
    c.loop-subtag-test.false c.loop-subtag.invariant.0

pub returns-in_err-push_in-clause-out_of_memory : goal.returns-in_err-push_in-clause-out_of_memory
returns-in_err-push_in-clause-out_of_memory g c =
    let p = err_from_is_err_and c.from_residual.result c.from_residual.ensures.1 in
    rw (p.1, p.2) (subst (λ (ws : List Text). RefusedWithin g.M.Memory.refused (length ws))
    c.as_subtags_slice-subtags.ensures.subtags
    (within_more g.M.Memory.refused (length c.loop-subtag.scripts + 1)
    (length c.as_subtags_slice-subtags.result.now)
    (let so = c.loop-subtag.invariant.1 in let more = c.loop-subtag-test.true in omega (arith, so, more))
    c.in_err-push_in.ensures.out_of_memory))
