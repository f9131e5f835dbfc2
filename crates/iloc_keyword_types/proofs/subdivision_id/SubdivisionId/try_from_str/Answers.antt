-- what is owed to each text follows from what is read
use Rattle.std.proofs.Common.{subst}
use Rattle.iloc_keyword_types.specs.Subdivisions.{SubdivisionTextReads}
use Rattle.iloc_keyword_types.proofs.OwedLemmas.{subdivision_accepts, subdivision_refuses}
use Rattle.iloc_keyword_types.proofs.subdivision_id.SubdivisionId.try_from_str.Goals as goal
use Rattle.iloc_spec_grammar.specs.Syntax.{Text}

pub returns-clause-reads : goal.returns-clause-reads
returns-clause-reads c = subst (λ (t : Text). SubdivisionTextReads t c.try_from_utf8.result)
    c.as_bytes.ensures.value c.try_from_utf8.ensures.reads

pub returns-clause-accepted : goal.returns-clause-accepted
returns-clause-accepted c = subdivision_accepts c.args.s.now c.try_from_utf8.result (returns-clause-reads c)

pub returns-clause-refused : goal.returns-clause-refused
returns-clause-refused c = subdivision_refuses c.args.s.now c.try_from_utf8.result (returns-clause-reads c)
