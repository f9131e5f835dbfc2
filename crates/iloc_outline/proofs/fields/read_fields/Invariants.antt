use Rattle.iloc_outline.specs.Gathering.{Takes}
use Rattle.iloc_spans.specs.Spans.{held_spans}
use Rattle.iloc_outline.proofs.fields.read_fields.Given as goal

-- the fields up to here were passed and put in order
abbrev pub invariant-keys : goal.invariant-keys
invariant-keys g l = Takes l.fn.role l.fn.cursor l.cursor (held_spans l.fn.spans) (held_spans l.spans) l.last
    l.fn.in_order l.in_order

abbrev pub decreases-keys : goal.decreases-keys
decreases-keys g l = l.cursor.remaining
