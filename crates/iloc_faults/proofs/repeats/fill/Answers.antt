use Rattle.std.proofs.Common.{◌<◌, ◌≤◌, ◌++◌, length, ◌∙◌, arith}
use Rattle.std.proofs.Math.Seq.{drop-append_seam}
use Rattle.std.proofs.lemmas.List.{length-append, length-set}
use Rattle.iloc_pieces.proofs.WordOrder.{variant_fits}
use Rattle.iloc_faults.proofs.NewNumbers.{taken_more, all_taken}
use Rattle.iloc_faults.proofs.VariantsLeft.{number_here, variant_at}
use Rattle.iloc_faults.proofs.repeats.fill.Goals as goal

pub word_number-requires : goal.word_number-requires
word_number-requires c =
    let q = c.requires in
    let k = c.loop-word.invariant q.0 q.1 (omega (arith, q.2, c.loop-word.auto.words)) in
    variant_fits _ (number_here (variant_at _ q.0 _ (omega (arith, q.2, c.loop-word-test.true)) k.1)).0

pub after-at-requires : goal.after-at-requires
after-at-requires c =
    let q = c.requires in
    let k = c.loop-word.invariant q.0 q.1 (omega (arith, q.2, c.loop-word.auto.words)) in
    (number_here (variant_at _ q.0 _ (omega (arith, q.2, c.loop-word-test.true)) k.1)).0

pub loop-word-preserved : goal.loop-word-preserved
loop-word-preserved c ns a long =
    let most : length c.loop-word.words ≤ length ns =
    omega (arith, long, length-set c.loop-word.words c.loop-word.word-index c.word_number.result) in
    let k = c.loop-word.invariant ns a most in
    let early : c.loop-word.word-index < length c.loop-word.words =
    omega (arith, c.loop-word-test.true, c.loop-word.auto.words) in
    let less : c.loop-word.word-index < length ns = omega (arith, early, most) in
    let there = variant_at _ ns _ less k.1 in (
      taken_more c.loop-word.words ns c.loop-word.word-index c.word_number.result early less k.0
          (c.word_number.ensures ∙ (number_here there).1),
      c.after-at.ensures _ _ there,
    )

pub returns : goal.returns
returns c ns ks a long =
    let k = c.loop-word.invariant (ns ++ ks) a (omega (arith, long, length-append ns ks)) in
    grind (arith, all_taken, drop-append_seam)
