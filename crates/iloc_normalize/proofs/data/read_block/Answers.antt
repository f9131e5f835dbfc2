use Rattle.std.proofs.Common.{arith, ◌≡◌, sym, ◌∙◌, slice_index, true}
use Rattle.std.proofs.lemmas.Bool.{ne_eqb, eq-eqb}
use Rattle.iloc_spec_parts.specs.SmallComputing.{is_u}
use Rattle.iloc_pieces.specs.Cursor.{piece_left}
use Rattle.iloc_pieces.proofs.CursorLemmas.{last_piece, single_short}
use Rattle.iloc_normalize.proofs.Blocks.{named_read, other_letter, u_alone, unlettered}
use Rattle.iloc_normalize.proofs.data.read_block.Goals as goal

pub returns-then-not-is_alphanumeric : goal.returns-then-not-is_alphanumeric
returns-then-not-is_alphanumeric c = grind (arith, unlettered)

pub returns-then-singleton-ne117 : goal.returns-then-singleton-ne117
returns-then-singleton-ne117 c = grind (arith, slice_index, ne_eqb, other_letter)

pub returns-then-is_last : goal.returns-then-is_last
returns-then-is_last c = grind (arith, slice_index, eq-eqb, u_alone, last_piece, single_short)

pub next-requires-clause-short : goal.next-requires-clause-short
next-requires-clause-short c = single_short _ (sym c.is_single.ensures ∙ c.if-not-is_single.false)

pub returns-in-Misfit : goal.returns-in-Misfit
returns-in-Misfit c = grind arith

pub returns-in-Unnamed : goal.returns-in-Unnamed
returns-in-Unnamed c = grind arith

pub returns-in-Named : goal.returns-in-Named
returns-in-Named c =
    let single = sym c.is_single.ensures ∙ c.if-not-is_single.false in
    let u : is_u (slice_index (piece_left c.args.cursor) 0) ≡ true = eq-eqb _ _ (sym c.singleton.ensures
    ∙ c.if-singleton-ne117.false) in
    named_read c.args.head c.args.cursor single u c.next.result c.next.ensures c.in-Named.value
    c.in-Named.ensures
