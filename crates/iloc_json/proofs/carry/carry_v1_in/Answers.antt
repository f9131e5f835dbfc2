use Rattle.std.proofs.Common.{◌++◌, ap, ◌∙◌, arith}
use Rattle.iloc_json.proofs.CarryLemmas.{refused, no_memory, one_more, dropped}
use Rattle.iloc_json.proofs.carry.carry_v1_in.Goals as goal
use Rattle.iloc_spec_grammar.specs.Syntax.{Text}

pub words-preserved : goal.words-preserved
words-preserved g c = one_more c.args.row.now c.words.rest.now c.words.carried.items c.words.count
    c.in-Ok.language _ _ c.words.invariant c.words-test.true c.in-Ok.ensures.0 c.in-Ok.ensures.1
    (dropped c.words.rest.now c.words-test.true) (c.in-Ok-extend_from_slice.ensures.ok
    ∙ ap (λ (x : Text). c.words.carried.items ++ x) c.into_raw.ensures)

pub returns-in_default-clause-err : goal.returns-in_default-clause-err
returns-in_default-clause-err g c =
    refused c.args.row.now c.words.rest.now c.words.carried.items c.words.count
    c.words.invariant (omega arith) c.words-test.true c.in_default.ensures.1

pub returns-in_default-extend_from_slice-clause-err : goal.returns-in_default-extend_from_slice-clause-err
returns-in_default-extend_from_slice-clause-err g c =
    no_memory c.args.row.now c.words.rest.now c.words.carried.items c.words.count c.in-Ok.language
    c.words.invariant (omega arith) c.words-test.true c.in-Ok.ensures.0 c.in-Ok.ensures.1
