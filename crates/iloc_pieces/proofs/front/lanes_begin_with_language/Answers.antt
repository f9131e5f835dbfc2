use Rattle.std.proofs.Common.{◌≡◌, ◌++◌, length, take, sym, ap, subst, ◌∙◌, arith, length-append}
use Rattle.std.proofs.lemmas.List.{take-append-le}
use Rattle.iloc_spec_grammar.specs.Syntax.{Text, Language, languages, first_piece, is_word, pieces}
use Rattle.iloc_pieces.specs.Front.{IsFirst}
use Rattle.iloc_pieces.proofs.FrontLemmas.{short_language, word_of_first}
use Rattle.iloc_pieces.proofs.front.lanes_begin_with_language.Goals as goal

-- what follows the bytes in a longer window changes nothing
pub returns : goal.returns
returns c = λ h.
    let k = c.args.len in
    let v = c.as_array-window.result.now in
    let n = c.first_len.result in
    let long : length v ≡ 16 = omega arith in
    let wide : take k (v ++ v) ≡ take k v = take-append-le k v v (omega (arith, c.requires, long)) in
    let same : take k v ≡ take k c.args.v = ap (take k) c.as_array-window.ensures in
    let first : IsFirst (take k (v ++ v)) n =
    subst (λ (x : Text). IsFirst x n) (sym wide) c.first_len.ensures in
    ap (λ (x : Text). is_word (Language languages) (first_piece (pieces x))) (sym (wide ∙ same))
    ∙ word_of_first (v ++ v) k n (omega (arith, c.requires, long, length-append v v)) first
    (Language languages) short_language
    ∙ ap (is_word (Language languages)) (take-append-le n v v (omega (arith, first.few, long)))
    ∙ sym c.is_language.ensures ∙ h
