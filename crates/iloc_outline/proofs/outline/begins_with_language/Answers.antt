-- What follows the bytes in a longer window changes nothing.
use Rattle.std.proofs.Common.{◌≡◌, ◌≤◌, ◌++◌, length, take, sym, ap, ◌∙◌, arith, length-append}
use Rattle.std.proofs.lemmas.List.{take-append-le}
use Rattle.iloc_spec_grammar.specs.Syntax.{Text, Language, languages, first_piece, is_word, pieces}
use Rattle.iloc_pieces.specs.Front.{IsFirst}
use Rattle.iloc_pieces.proofs.FrontLemmas.{short_language, word_of_first}
use Rattle.iloc_outline.proofs.outline.begins_with_language.Goals as goal

pub returns : goal.returns
returns c =
    let k = c.args.len in
    let w = c.args.window.now in
    let n = c.first_len.result in
    let many : 16 ≤ length w = omega (arith, c.if-window-lt16.false) in
    let wide : take k (w ++ w) ≡ take k w = take-append-le k w w c.requires in
    let first : IsFirst (take k (w ++ w)) n =
    rw wide c.first_len.ensures in
    let is : is_word (Language languages) (first_piece (pieces (take k w))) ≡ c.is_language.result =
    ap (λ (x : Text). is_word (Language languages) (first_piece (pieces x))) (sym wide)
    ∙ word_of_first (w ++ w) k n (omega (arith, c.requires, many, length-append w w)) first
    (Language languages) short_language
    ∙ ap (is_word (Language languages)) (take-append-le n w w (omega (arith, first.few, many)))
    ∙ sym c.is_language.ensures in
    (λ t. is ∙ t, λ t. sym is ∙ t)
