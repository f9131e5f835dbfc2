use Rattle.std.proofs.Common.{sym, ap, ◌∙◌, arith, ◌<◌, ℕ, length}
use Rattle.std.specs.List.{list_any}
use Rattle.iloc_pieces.proofs.WordOrder.{variant_fits}
use Rattle.iloc_faults.specs.Numbers.{same}
use Rattle.iloc_faults.proofs.NewNumbers.{search_is, others_one, come_before, come_all}
use Rattle.iloc_faults.proofs.VariantsLeft.{number_here, variant_at}
use Rattle.iloc_faults.proofs.repeats.count_others.Goals as goal

pub word_number-requires : goal.word_number-requires
word_number-requires c =
    let q = c.requires.words in
    let k = c.loop-count.invariant q.0 q.1 q.2 in
    variant_fits _ (number_here (variant_at _ q.0 _ (omega (arith, q.2, c.loop-count-test.true)) k.1)).0

pub after-at-requires : goal.after-at-requires
after-at-requires c =
    let q = c.requires.words in
    let k = c.loop-count.invariant q.0 q.1 q.2 in
    (number_here (variant_at _ q.0 _ (omega (arith, q.2, c.loop-count-test.true)) k.1)).0

pub returns-then-is_ok : goal.returns-then-is_ok
returns-then-is_ok c ns a long =
    let k = c.loop-count.invariant ns a long in
    let here = number_here (variant_at _ ns _ (omega (arith, long, c.loop-count-test.true)) k.1) in
    come_before c.args.sorted.now ns c.args.most c.loop-count.count long c.loop-count-test.true k.0
    (grind (arith, search_is))

pub loop-count-preserved : goal.loop-count-preserved
loop-count-preserved c ns a long =
    let k = c.loop-count.invariant ns a long in
    let less : c.loop-count.count < length ns = omega (arith, long, c.loop-count-test.true) in
    let there = variant_at _ ns _ less k.1 in
    let here = number_here there in (
      others_one c.args.sorted.now ns c.loop-count.count less k.0
          (ap (λ (n : ℕ). list_any (same n) c.args.sorted.now) (sym here.1 ∙ sym c.word_number.ensures)
          ∙ sym (search_is c.args.sorted.now _ _ c.binary_search.ensures.position c.requires.sorted)
          ∙ sym c.is_ok.ensures.value ∙ c.if-is_ok.false),
      c.after-at.ensures _ _ there,
    )

pub returns : goal.returns
returns c ns a long = grind (arith, come_all)
