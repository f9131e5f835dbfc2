use Rattle.std.proofs.Common.{◌∙◌, ap, sym, length, nat_eq}
use Rattle.std.specs.Cmp.Lexicographic.{pointwise}
use Rattle.iloc_word_list.specs.EqualityLaws.{word_exact}
use Rattle.iloc_word_list.proofs.PrintLemmas.{split_there, split_not}
use Rattle.iloc_word_list.proofs.printing.after_subtag.Goals as goal

pub returns-then-eq-clause-some : goal.returns-then-eq-clause-some
returns-then-eq-clause-some c =
    let same = (word_exact _ _).0 (sym c.eq.ensures ∙ c.if-eq.true) in
    split_there _ _ _ _ _ c.in_ok-front.ensures.cases
    (sym c.in_ok-of.ensures.short ∙ same ∙ c.to_piece-piece.ensures.value)

pub returns-else-eq-clause-none : goal.returns-else-eq-clause-none
returns-else-eq-clause-none c = λ _.
    let piece = c.to_piece-piece.ensures.value in
    split_not _ _ _ _ _ c.in_ok-front.ensures.cases (c.len.ensures.value ∙ ap length piece)
    (ap (λ t. pointwise nat_eq t c.args.subtag.now) (sym c.in_ok-of.ensures.short)
    ∙ ap (pointwise nat_eq c.in_ok-of.field-0) (sym piece) ∙ sym c.eq.ensures ∙ c.if-eq.false)
