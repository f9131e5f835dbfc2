use Rattle.std.proofs.Common.{◌≡◌, is_some, [], length, take, ap, arith}
use Rattle.std.proofs.lemmas.List.{take_all}
use Rattle.iloc_spec_grammar.specs.Syntax.{Text, Attribute, IsWord, first_piece, join, pieces}
use Rattle.iloc_spec_grammar.proofs.PiecesLaws.{pieces-join}
use Rattle.iloc_spec_grammar.proofs.ReadBack.{word_hyphen_free}
use Rattle.iloc_pieces.specs.Cursor.{bytes_left, piece_left}
use Rattle.iloc_pieces.specs.declared.place.Cursor.{Cursor}
use Rattle.iloc_normalize.proofs.Names.{all_there, long_there, names_by_region, shape_there}
use Rattle.iloc_normalize.proofs.subdivisions.names_subdivision.Goals as goal

-- a word is the one piece of its text
word_alone : (w : Text) → IsWord Attribute w → first_piece (pieces w) ≡ w
unfolding join
word_alone w word = ap first_piece (pieces-join w [] (word_hyphen_free Attribute w word, tt))

only_piece : (w : Text) → IsWord Attribute w → (l : Cursor) → bytes_left l ≡ take (length w) w →
    piece_left l ≡ w
only_piece w word l e = grind (arith, take_all, word_alone)

pub returns : goal.returns
returns c =
    let w = c.args.word.now in
    let l = c.cursor_in.result in
    let e : piece_left l ≡ w = only_piece w c.requires l c.cursor_in.ensures.rest in
    grind (arith, is_some, names_by_region, all_there, long_there, shape_there)
