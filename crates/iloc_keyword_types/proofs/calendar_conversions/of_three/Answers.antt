use Rattle.std.proofs.Common.{sym, ◌∙◌, codes, nat_eq}
use Rattle.std.specs.Cmp.Lexicographic.{pointwise}
use Rattle.iloc_keyword_types.proofs.CalendarLemmas.{three_words, ethioaa_where}
use Rattle.iloc_keyword_types.proofs.calendar_conversions.of_three.Goals as goal
use Rattle.iloc_keyword_types.proofs.calendar_conversions.of_three.Goals.{else-eq-via-then-eq+then-eq-2+else-eq-3, else-eq-via-then-eq+else-eq-2, else-eq-via-else-eq}

pub returns-then-eq-3 : goal.returns-then-eq-3
returns-then-eq-3 c = sym (three_words c.args.first.now c.args.second.now c.args.third.now
    ∙ (λ i. ethioaa_where (sym c.if-eq.ensures i) (sym c.if-eq-2.ensures i) (sym c.if-eq-3.ensures i)))

pub returns-else-eq : goal.returns-else-eq
returns-else-eq c =
    sym (three_words c.args.first.now c.args.second.now c.args.third.now ∙ (elim c.else-eq.branch [
      | else-eq-via-then-eq+then-eq-2+else-eq-3 w ↦
          (λ i. ethioaa_where (sym w.if-eq.ensures i) (sym w.if-eq-2.ensures i) (sym w.if-eq-3.ensures i))
      | else-eq-via-then-eq+else-eq-2 w ↦
          (λ i. ethioaa_where (sym w.if-eq.ensures i) (sym w.if-eq-2.ensures i)
          (pointwise nat_eq c.args.third.now (codes "alem")))
      | else-eq-via-else-eq w ↦ (λ i. ethioaa_where (sym w.if-eq.ensures i)
          (pointwise nat_eq c.args.second.now (codes "amete"))
          (pointwise nat_eq c.args.third.now (codes "alem")))
    ]))
