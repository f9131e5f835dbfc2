use Rattle.std.proofs.Common.{Some, length, ap, ◌∙◌, arith, refl, ◌≡◌}
use Rattle.iloc_spec_grammar.specs.Syntax.{first_piece, pieces}
use Rattle.iloc_spec_grammar.specs.Reading.{first_item}
use Rattle.iloc_text_parts.proofs.TailLemmas.{first_found, first_within}
use Rattle.iloc_text_parts.proofs.tails.first_len.Goals as goal

pub returns-in-Some-clause-within : goal.returns-in-Some-clause-within
returns-in-Some-clause-within c =
    let t = c.args.text.now in
    let e : length c.in-Some.piece.now ≡ length (first_piece (pieces t)) =
    first_found t _ (Some c.in-Some.piece.now) (c.in-Some.ensures ∙ ap first_item c.new.ensures) refl in
    omega (arith, first_within t)
