use Rattle.std.proofs.Common.{get_or, sym, arith}
use Rattle.std.proofs.lemmas.Bool.{ne_eqb, eq-eqb}
use Rattle.iloc_pieces.proofs.CursorLemmas.{piece_inside}
use Rattle.iloc_normalize.proofs.Names.{not_two, sd_is, two_long}
use Rattle.iloc_normalize.proofs.subdivisions.is_sd.Goals as goal

pub returns-then-at-ne2 : goal.returns-then-at-ne2
returns-then-at-ne2 c = sym (not_two c.args.at c.if-at-ne2.true)

pub bounds-at-at : goal.bounds-at-at
bounds-at-at c =
    let n = two_long c.args.at c.if-at-ne2.false in let i = piece_inside c.args.at in omega (arith, n, i)

pub returns-then-to_ascii_lowercase-ne115 : goal.returns-then-to_ascii_lowercase-ne115
returns-then-to_ascii_lowercase-ne115 c = grind (arith, get_or, ne_eqb, sd_is)

pub bounds-at-at-2 : goal.bounds-at-at-2
bounds-at-at-2 c =
    let n = two_long c.args.at c.if-at-ne2.false in let i = piece_inside c.args.at in omega (arith, n, i)

pub returns : goal.returns
returns c = grind (arith, get_or, eq-eqb, sd_is)
