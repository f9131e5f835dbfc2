use Rattle.std.proofs.Common.{[], rules}
use Rattle.iloc_spec_grammar.specs.Syntax.{pieces}
use Rattle.iloc_langid.specs.PlainReads.{IsPlainFront}
use Rattle.iloc_langid.proofs.PlainLemmas.{plain_means}
use Rattle.iloc_langid.proofs.reader.fill_short.Goals as goal

pub returns-clause-answered : goal.returns-clause-answered
returns-clause-answered c =
    let f : IsPlainFront (pieces c.args.text.now) [] c.in-Some.parts = search rules in
    λ _. plain_means (pieces c.args.text.now) _ f c.requires
