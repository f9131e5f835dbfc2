use Rattle.std.proofs.Common.{◌≡◌, ℕ, ◌∙◌, ap, arith, codes, eqb, refl}
use Rattle.std.proofs.lemmas.Bool.Decides.{nat_tests}
use Rattle.std.specs.Cmp.Lexicographic.{texts_ties}
use Rattle.iloc_tinystr.specs.Number.{number}
use Rattle.iloc_tinystr.proofs.RawOrder.{number_same}
use Rattle.iloc_tinystr.proofs.TinyTextLemmas.{bytes-tiny}
use Rattle.iloc_spec_grammar.specs.Syntax.{is_true}
use Rattle.iloc_word_list.proofs.value.spells_true.Goals as goal

turned : (a b : ℕ) → eqb a b ≡ eqb b a
turned a b = grind (arith, nat_tests)

pub returns-clause-value : goal.returns-clause-value
unfolding is_true
returns-clause-value g c =
    let text =
    bytes-tiny 8 c.args.word.now (g.met.K.WordKind.fits c.args.word.now c.to_piece.ensures.normal.0) in
    let same = c.number.ensures ∙ ap number c.to_piece.ensures.value in
    turned c.number.result 1702195828 ∙ ap (eqb 1702195828) same
    ∙ number_same (codes "true") c.args.word.now refl text ∙ texts_ties (codes "true") c.args.word.now
