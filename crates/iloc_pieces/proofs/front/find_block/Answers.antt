use Rattle.std.proofs.Common.{ℕ, ◌<◌, ◌≤◌, length, take, refl, sym, subst, ◌∙◌, arith, ◌+◌}
use Rattle.iloc_spec_grammar.specs.Syntax.{Language, languages}
use lib.Count.{count_trailing_zeros}
use Rattle.iloc_pieces.specs.Run.{IsFirstSingle}
use Rattle.iloc_pieces.specs.Walk.{hyphen_marks, single_marks}
use Rattle.iloc_pieces.proofs.FrontLemmas.{short_language, word_of_first}
use Rattle.iloc_pieces.proofs.SingleLemmas.{found_there, single_is}
use Rattle.iloc_pieces.proofs.front.find_block.Goals as goal

pub returns : goal.returns
returns c =
    let w = c.args.text.bytes.now in
    let len = c.len-len.result in
    let room : len + 16 ≤ length w = omega (arith, c.len-len.ensures, c.args.text.room) in
    let at = count_trailing_zeros 64 c.before_singles-marks.result in
    let wide : 16 ≤ length w = omega (arith, c.args.text.room) in
    let some : 0 < single_marks (take 16 w) =
    omega (arith, c.before_singles-marks.ensures, c.if-marks-eq0.false) in
    let single : IsFirstSingle w at =
    subst (λ (m : ℕ). IsFirstSingle w (count_trailing_zeros 64 m)) (sym c.before_singles-marks.ensures)
    (single_is w (hyphen_marks (take 16 w)) wide refl some) in
    let begins = word_of_first w len c.first_len-n.result room c.first_len-n.ensures (Language languages)
    short_language
    ∙ sym c.is_language.ensures ∙ c.if-not-is_language.false in
    found_there w len at room single c.if-at-len.false c.if-text-at-eq45.false _ refl
    (omega (arith, c.len-len.ensures, c.args.text.room)) begins _ c.len-len.ensures
