use Rattle.std.proofs.Common.{Bool, ◌&&◌, take, sym, ap, ◌∙◌, arith, ℕ}
use Rattle.iloc_spec_grammar.specs.Syntax.{Language, first_piece, is_word, languages, letters, pieces}
use Rattle.iloc_pieces.proofs.FrontLemmas.{short_language, word_of_first}
use Rattle.iloc_pieces.proofs.RunWords.{language_is}
use Rattle.iloc_pieces.proofs.front.may_begin.Goals as goal

pub returns : goal.returns
returns c = λ h.
    let w = c.args.text.bytes.now in
    let n = c.first_len.result in
    let len = c.len.result in
    ap (λ (m : ℕ). is_word (Language languages) (first_piece (pieces (take m w)))) (sym c.len.ensures)
    ∙ word_of_first w len n (omega (arith, c.len.ensures, c.args.text.room)) c.first_len.ensures
    (Language languages) short_language
    ∙ language_is w n (omega arith) c.first_len.ensures.few
    ∙ ap (λ (b : Bool). b && letters (take n w)) (sym c.is_language_length.ensures.exact ∙ h)
