use Rattle.std.proofs.Common.{arith, sym, ◌∙◌}
use Rattle.iloc_pieces.specs.Cursor.{piece_left}
use Rattle.iloc_pieces.proofs.CursorLemmas.{short_key}
use Rattle.iloc_normalize.proofs.Behind.{attribute_behind, misfit_behind, no_key_behind, unnamed_pieces}
use Rattle.iloc_normalize.proofs.Keywords.{keyword_named}
use Rattle.iloc_normalize.proofs.subdivisions.read_keyword.Goals as goal

pub returns-then-is_attribute : goal.returns-then-is_attribute
returns-then-is_attribute c = grind (arith, attribute_behind)

pub returns-then-not-is_key : goal.returns-then-not-is_key
returns-then-not-is_key c = grind (arith, no_key_behind)

pub read_subtags-requires : goal.read_subtags-requires
read_subtags-requires c =
    short_key (piece_left c.args.key) (sym c.is_key.ensures ∙ c.if-not-is_key.false)

pub returns-in-Misfit : goal.returns-in-Misfit
returns-in-Misfit c = grind (arith, misfit_behind)

pub returns-in-Trues : goal.returns-in-Trues
returns-in-Trues c = grind (arith, unnamed_pieces)

pub named-requires-clause-key : goal.named-requires-clause-key
named-requires-clause-key c = sym c.is_key.ensures ∙ c.if-not-is_key.false

pub returns-in-One : goal.returns-in-One
returns-in-One c = grind (arith, keyword_named)
