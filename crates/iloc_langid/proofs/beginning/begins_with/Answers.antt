use Rattle.iloc_spec_grammar.specs.Syntax.{pieces}
use Rattle.iloc_langid.specs.Reads.{value_of}
use Rattle.iloc_langid.proofs.BeginningLemmas.{head_means_begins}
use Rattle.iloc_langid.proofs.beginning.begins_with.Goals as goal

pub returns-clause-means : goal.returns-clause-means
returns-clause-means c =
    let ps = pieces c.args.text.now in
    λ m. c.has_front.ensures.1 (head_means_begins ps (value_of c.args.identifier.now) m)
