use Rattle.iloc_spec_grammar.specs.Values.{IsNormal}
use Rattle.iloc_subtags.proofs.InTurn.{all_from, all_past}
use Rattle.iloc_subtags.proofs.word_of.are_normal.Goals as goal

pub loop-word-preserved : goal.loop-word-preserved
loop-word-preserved g c = λ h.
    c.loop-word.invariant (all_from (IsNormal g.K.WordKind.kind) c.args.words.now c.loop-word.word-index
    c.word-item.result c.loop-word-test.true c.word-item.is c.is_normal.ensures h)

pub returns : goal.returns
returns g c = c.loop-word.invariant
    (all_past (IsNormal g.K.WordKind.kind) c.args.words.now c.loop-word.word-index c.loop-word-test.false)
