-- the head of the pieces is read
use Rattle.std.proofs.Common.{List, subst}
use Rattle.iloc_spec_grammar.specs.Syntax.{Text, pieces, head}
use Rattle.iloc_subtags.specs.Judging.{RunsOutOnlyIf}
use Rattle.iloc_langid.specs.Reads.{IdentifierReads, IdentifierWantsMemory}
use Rattle.iloc_subtags.specs.Left.{left}
use Rattle.iloc_langid.proofs.VariantLemmas.{refused_in_text}
use Rattle.iloc_langid.proofs.ReadLemmas.{reads_accepts, reads_refuses}
use Rattle.iloc_langid.proofs.identifier.LanguageIdentifier.try_from_locale_bytes_in.Goals as goal

pub returns-clause-reads : goal.returns-clause-reads
returns-clause-reads g c = subst (λ (ps : List Text). IdentifierReads (head ps) c.read_head.result)
    c.new.ensures c.read_head.ensures.reads

pub returns-clause-accepted : goal.returns-clause-accepted
returns-clause-accepted g c =
    reads_accepts (head (pieces c.args.v.now)) c.read_head.result (returns-clause-reads g c)

pub returns-clause-refused : goal.returns-clause-refused
returns-clause-refused g c =
    reads_refuses (head (pieces c.args.v.now)) c.read_head.result (returns-clause-reads g c)

pub returns-clause-memory : goal.returns-clause-memory
returns-clause-memory g c =
    subst (λ (ps : List Text). RunsOutOnlyIf (IdentifierWantsMemory (head ps)) c.read_head.result)
    c.new.ensures c.read_head.ensures.memory

pub returns-clause-out_of_memory : goal.returns-clause-out_of_memory
returns-clause-out_of_memory g c =
    refused_in_text g.M.Memory.refused c.args.v.now (left c.new.result) c.new.ensures c.read_head.result
    c.read_head.ensures.out_of_memory
