use Rattle.iloc_subtags.specs.Left.{left}
use Rattle.iloc_langid.proofs.SmallLemmas.{parts_give}
use Rattle.iloc_langid.proofs.small.read_small_front.Goals as goal

pub returns : goal.returns
returns c = parts_give (left c.args.iter.now) (left c.take_plain.new.iter) (left c.take_word-variant.new.iter)
    c.in-Some.plain c.take_word-variant.result c.in-Some.ensures c.take_word-variant.ensures.word
    c.take_word-variant.ensures.rest
