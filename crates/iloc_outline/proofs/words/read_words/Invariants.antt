use Rattle.iloc_outline.specs.Gathering.{Walks}
use Rattle.iloc_spans.specs.Spans.{held_spans}
use Rattle.iloc_outline.proofs.words.read_words.Given as goal

-- the words up to here were passed and put in order
abbrev pub invariant-words : goal.invariant-words
invariant-words g l = Walks l.fn.role l.fn.cursor l.cursor (held_spans l.fn.spans) (held_spans l.spans) l.last
    l.fn.in_order l.in_order

abbrev pub decreases-words : goal.decreases-words
decreases-words g l = l.cursor.remaining
