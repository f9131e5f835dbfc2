use Rattle.std.proofs.Common.{arith, sym, ◌∙◌}
use Rattle.iloc_pieces.proofs.CursorLemmas.{last_piece, short_attribute}
use Rattle.iloc_normalize.proofs.Subtags.{goes_on, no_true, no_word}
use Rattle.iloc_normalize.proofs.subdivisions.ends_in_trues.Goals as goal

pub returns-then-not-is_attribute : goal.returns-then-not-is_attribute
returns-then-not-is_attribute c = grind (arith, no_word)

pub is_true-requires : goal.is_true-requires
is_true-requires c = short_attribute _ (sym c.is_attribute.ensures
    ∙ c.if-not-is_attribute.false)

pub returns-then-not-is_true : goal.returns-then-not-is_true
returns-then-not-is_true c = grind (arith, no_true)

pub trues-preserved : goal.trues-preserved
trues-preserved c = grind (arith, short_attribute, goes_on)

pub returns : goal.returns
returns c = grind (arith, last_piece)
