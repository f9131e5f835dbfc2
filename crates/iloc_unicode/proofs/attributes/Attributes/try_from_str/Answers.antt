-- what is owed to each text follows from what is read
use Rattle.std.proofs.Common.{subst}
use Rattle.iloc_spec_grammar.specs.Syntax.{Text, pieces}
use Rattle.iloc_subtags.specs.Judging.{RunsOutOnlyIf}
use Rattle.iloc_unicode.specs.Reads.{AttributesTextReads, AttributesWantMemory}
use Rattle.iloc_unicode.proofs.OwedLemmas.{attributes_accepts}
use Rattle.iloc_unicode.proofs.attributes.Attributes.try_from_str.Goals as goal

pub returns-clause-reads : goal.returns-clause-reads
returns-clause-reads c = subst (λ (t : Text). AttributesTextReads t c.try_from_utf8_in.result)
    c.as_bytes.ensures.value c.try_from_utf8_in.ensures.reads

pub returns-clause-memory : goal.returns-clause-memory
returns-clause-memory c =
    subst (λ (t : Text). RunsOutOnlyIf (AttributesWantMemory (pieces t)) c.try_from_utf8_in.result)
    c.as_bytes.ensures.value c.try_from_utf8_in.ensures.memory

pub returns-clause-accepted : goal.returns-clause-accepted
returns-clause-accepted c = attributes_accepts c.args.s.now c.try_from_utf8_in.result (returns-clause-reads c)
