use Rattle.iloc_subtags.specs.Left.{left}
use Rattle.iloc_langid.proofs.ValueLemmas.{other_read, second_read}
use Rattle.iloc_langid.proofs.small_locale.read_value.Goals as goal

pub returns-in_default : goal.returns-in_default
returns-in_default c = other_read (left c.args.iter.now) (left c.loop-piece.piece-iterator.now)
    (left c.next.new.self.now) c.loop-piece.value c.loop-piece.invariant c.in-Some.piece.now
    c.in-Some.ensures.steps c.in_default.field-0 c.in_default.ensures

pub returns-then-is_some : goal.returns-then-is_some
returns-then-is_some c = second_read (left c.args.iter.now) (left c.loop-piece.piece-iterator.now)
    (left c.next.new.self.now) c.loop-piece.value c.loop-piece.invariant c.in-Some.piece.now
    c.in-Some.ensures.steps c.in-Ok.word c.in-Ok.ensures c.if-spells_true.ensures.value c.if-is_some.ensures
