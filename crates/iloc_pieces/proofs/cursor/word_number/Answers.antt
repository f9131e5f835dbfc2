use Rattle.std.proofs.Common.{sym, ap, subst, ◌∙◌, arith}
use Rattle.iloc_pieces.specs.Words.{IsUpToEight, word_number}
use Rattle.iloc_pieces.proofs.CursorLemmas.{length_piece, piece_inside, short_bytes}
use Rattle.iloc_pieces.proofs.cursor.word_number.Goals as goal
use Rattle.iloc_spec_grammar.specs.Syntax.{Text}

pub number_at-requires-clause-inside : goal.number_at-requires-clause-inside
number_at-requires-clause-inside c =
    omega (arith, length_piece c.args.cursor c.requires.few, piece_inside c.args.cursor)

pub number_at-requires-clause-word : goal.number_at-requires-clause-word
number_at-requires-clause-word c =
    subst (λ (p : Text). IsUpToEight p)
    (sym (short_bytes c.args.cursor c.requires.few)) c.requires

pub returns : goal.returns
returns c = c.number_at.ensures ∙ ap word_number (short_bytes c.args.cursor c.requires.few)
