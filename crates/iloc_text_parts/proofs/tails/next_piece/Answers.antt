use Rattle.std.proofs.Common.{◌≡◌, ◌-◌, drop, take, length, length-drop, ap, arith, sym, ◌∙◌, ◌∷◌}
use Rattle.std.proofs.lemmas.List.{take_all}
use Rattle.iloc_spec_grammar.specs.Reading.{rest_of}
use Rattle.iloc_spec_grammar.specs.Syntax.{first_piece, pieces}
use Rattle.iloc_text_parts.proofs.TailLemmas.{first_before_rest, tail_pieces-behind}
use Rattle.iloc_text_parts.proofs.tails.next_piece.Goals as goal

pub returns-in-len1-up-clause-some : goal.returns-in-len1-up-clause-some
returns-in-len1-up-clause-some c =
    let t = c.args.tail.now in
    let x : take (length t - 1) (drop 1 t) ≡ drop 1 t =
    take_all _ (drop 1 t) (omega (arith, length-drop 1 t)) in
    let p = c.split.ensures.piece ∙ ap (λ l. first_piece (pieces l)) x in
    let r = c.split.ensures.rest ∙ ap (λ l. rest_of (pieces l)) x in
    λ n. tail_pieces-behind t n ∙ first_before_rest (drop 1 t) ∙ (λ k. sym p k ∷ sym r k)
