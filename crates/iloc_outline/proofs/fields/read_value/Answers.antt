use Rattle.std.proofs.Common.{sym, ◌∙◌, arith}
use Rattle.iloc_pieces.proofs.CursorLemmas.{short_attribute}
use Rattle.iloc_outline.proofs.ValueLemmas.{reaches_key, reaches_more, says_true, value_before, value_last}
use Rattle.iloc_outline.proofs.WordLemmas.{end_within}
use Rattle.iloc_outline.proofs.fields.read_value.Goals as goal

pub values-init : goal.values-init
values-init c = search reaches_key

pub overflow_add-result : goal.overflow_add-result
overflow_add-result c = grind (arith, end_within)

pub returns-then-is_last : goal.returns-then-is_last
returns-then-is_last c = grind (arith, value_last)

pub advance-requires-clause-short : goal.advance-requires-clause-short
advance-requires-clause-short c = c.values.invariant.short

pub returns-then-not-is_attribute : goal.returns-then-not-is_attribute
returns-then-not-is_attribute c =
    value_before c.args.cursor.now c.values.cursor _ _ c.values.invariant c.requires.later
    c.advance.new.cursor c.advance.ensures (sym c.is_attribute.ensures ∙ c.if-not-is_attribute.true)

pub is_true-has_true-requires : goal.is_true-has_true-requires
is_true-has_true-requires c = grind (arith, short_attribute)

pub overflow_add-count : goal.overflow_add-count
overflow_add-count c = grind arith

pub values-smaller : goal.values-smaller
values-smaller c = c.advance.ensures.less

pub values-preserved : goal.values-preserved
values-preserved c = grind (arith, says_true, reaches_more)
