use Rattle.std.proofs.Common.{◌∙◌}
use Rattle.iloc_subtags.proofs.PeekLemmas.{next_length}
use Rattle.iloc_subtags.proofs.subtag_iterator.SubtagIterator.next_has_length.Goals as goal

pub returns : goal.returns
returns g c = c.has_length.ensures.value
    ∙ next_length g.K.WordKind.kind c.args.self.now
    (λ t. c.has_length.ensures.few (c.has_length.ensures.value ∙ t))
