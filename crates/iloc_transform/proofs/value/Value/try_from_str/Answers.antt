-- what is owed to each text follows from what is read
use Rattle.std.proofs.Common.{subst}
use Rattle.iloc_transform.specs.ValueReading.{FieldValueTextReads, FieldValueTextWants}
use Rattle.iloc_subtags.specs.Judging.{RunsOutOnlyIf}
use Rattle.iloc_transform.proofs.ValueOwed.{value_accepts, value_refuses}
use Rattle.iloc_transform.proofs.value.Value.try_from_str.Goals as goal
use Rattle.iloc_spec_grammar.specs.Syntax.{Text}

pub returns-clause-reads : goal.returns-clause-reads
returns-clause-reads c = subst (λ (t : Text). FieldValueTextReads t c.try_from_utf8_in.result)
    c.as_bytes.ensures.value c.try_from_utf8_in.ensures.reads

pub returns-clause-memory : goal.returns-clause-memory
returns-clause-memory c = subst
    (λ (t : Text). RunsOutOnlyIf (FieldValueTextWants t) c.try_from_utf8_in.result)
    c.as_bytes.ensures.value c.try_from_utf8_in.ensures.memory

pub returns-clause-accepted : goal.returns-clause-accepted
returns-clause-accepted c = value_accepts c.args.s.now c.try_from_utf8_in.result (returns-clause-reads c)

pub returns-clause-refused : goal.returns-clause-refused
returns-clause-refused c = value_refuses c.args.s.now c.try_from_utf8_in.result (returns-clause-reads c)
