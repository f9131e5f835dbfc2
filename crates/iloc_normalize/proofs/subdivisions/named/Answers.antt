use Rattle.std.proofs.Common.{arith, inr, subst}
use Rattle.iloc_pieces.specs.Cursor.{piece_left}
use Rattle.iloc_pieces.proofs.CursorLemmas.{length_piece, short_attribute}
use Rattle.iloc_normalize.specs.Subdivisions.{EndsRegion}
use Rattle.iloc_normalize.proofs.Names.{all_there, long_there, named_there, shape_there, unnamed}
use Rattle.iloc_normalize.proofs.subdivisions.named.Goals as goal

pub returns-then-region-eq0 : goal.returns-then-region-eq0
returns-then-region-eq0 c =
    let m = c.args.word in
    let word = c.requires.word in
    inr (unnamed (piece_left m) (subst (EndsRegion (piece_left m)) c.if-region-eq0.true
    (c.region_len-region.ensures (piece_left m) (all_there m word) (long_there m word)
    (shape_there m word))))

pub returns : goal.returns
returns c = grind (arith, length_piece, short_attribute, named_there, all_there, long_there, shape_there)
