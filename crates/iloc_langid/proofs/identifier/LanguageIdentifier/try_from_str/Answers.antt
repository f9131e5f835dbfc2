-- a text is read as its bytes are
use Rattle.std.proofs.Common.{subst}
use Rattle.iloc_spec_grammar.specs.Syntax.{Text, pieces}
use Rattle.iloc_subtags.specs.Judging.{RunsOutOnlyIf}
use Rattle.iloc_langid.specs.Reads.{IdentifierReads, IdentifierWantsMemory}
use Rattle.iloc_langid.proofs.ReadLemmas.{reads_accepts, reads_refuses, reads_narrow}
use Rattle.iloc_langid.proofs.identifier.LanguageIdentifier.try_from_str.Goals as goal

pub returns-clause-reads : goal.returns-clause-reads
returns-clause-reads c = subst (λ (t : Text). IdentifierReads (pieces t) c.try_from_utf8_in.result)
    c.as_bytes.ensures.value c.try_from_utf8_in.ensures.reads

pub returns-clause-accepted : goal.returns-clause-accepted
returns-clause-accepted c =
    reads_accepts (pieces c.args.s.now) c.try_from_utf8_in.result (returns-clause-reads c)

pub returns-clause-refused : goal.returns-clause-refused
returns-clause-refused c =
    reads_refuses (pieces c.args.s.now) c.try_from_utf8_in.result (returns-clause-reads c)

pub returns-clause-narrow : goal.returns-clause-narrow
returns-clause-narrow c = reads_narrow c.args.s.now c.try_from_utf8_in.result (returns-clause-reads c)

pub returns-clause-memory : goal.returns-clause-memory
returns-clause-memory c =
    subst (λ (t : Text). RunsOutOnlyIf (IdentifierWantsMemory (pieces t)) c.try_from_utf8_in.result)
    c.as_bytes.ensures.value c.try_from_utf8_in.ensures.memory
