use Rattle.std.proofs.Common.{arith, sym, ◌∙◌}
use Rattle.iloc_pieces.proofs.CursorLemmas.{last_piece, short_attribute}
use Rattle.iloc_normalize.proofs.Subtags.{misfit, not_only, only_one, only_trues, reaches_key, reaches_more}
use Rattle.iloc_normalize.proofs.subdivisions.read_subtags.Goals as goal

pub trues-init : goal.trues-init
trues-init c = reaches_key c.args.key c.requires

pub returns-then-is_last : goal.returns-then-is_last
returns-then-is_last c = grind (arith, only_trues, last_piece)

pub returns-then-not-is_attribute : goal.returns-then-not-is_attribute
returns-then-not-is_attribute c = grind (arith, misfit)

pub is_true-requires : goal.is_true-requires
is_true-requires c = short_attribute _ (sym c.is_attribute.ensures
    ∙ c.if-not-is_attribute.false)

pub trues-preserved : goal.trues-preserved
trues-preserved c = grind (arith, reaches_more)

pub ends_in_trues-requires : goal.ends_in_trues-requires
ends_in_trues-requires c = short_attribute _ (sym c.is_attribute.ensures
    ∙ c.if-not-is_attribute.false)

pub returns-then-ends_in_trues : goal.returns-then-ends_in_trues
returns-then-ends_in_trues c = grind (arith, only_one)

pub returns : goal.returns
returns c = grind (arith, not_only)
