use Rattle.std.proofs.Common.{◌≡◌, ◌-◌, ℕ, [], length, arith}
use Rattle.std.proofs.lemmas.List.{length-map, length-take-le}
use Rattle.std.proofs.lemmas.List.Sorted.{IsNonDecreasingBy-from_sort}
use Rattle.iloc_faults.specs.States.{variants_left}
use Rattle.iloc_faults.proofs.Chunks.{IsCompared, compare_starts, compare_ends, least, left_here, with_twice, with_once, found_within}
use Rattle.iloc_faults.proofs.VariantsLeft.{new_words, variant_numbers, variants_are}
use Rattle.iloc_faults.proofs.repeats.count_in.Goals as goal

pub chunks-init : goal.chunks-init
chunks-init c = grind (arith, length-map, IsCompared, compare_starts, variant_numbers)

pub has_twice-requires : goal.has_twice-requires
has_twice-requires c = IsNonDecreasingBy-from_sort (λ (x : ℕ). x) _ c.sort_unstable.ensures.sorted

pub count_others-requires-clause-sorted : goal.count_others-requires-clause-sorted
count_others-requires-clause-sorted c =
    IsNonDecreasingBy-from_sort (λ (x : ℕ). x) _ c.sort_unstable.ensures.sorted

pub chunks-preserved-then-has_twice : goal.chunks-preserved-then-has_twice
chunks-preserved-then-has_twice c =
    let m = least c.min-count.result c.chunks.size (c.chunks.fresh - c.chunks.done) c.min-count.ensures in
    let long : length c.fill-later.new.words ≡ c.min-count.result =
    omega (
      arith,
      c.fill-later.auto.words,
      length-take-le c.min-count.result c.chunks.words (omega (arith, m.first, c.chunks.invariant.2)),
    ) in
    let t = with_twice c.chunks.invariant.0 c.min-count.result m.second c.fill-later.new.words
    c.sort_unstable.new.self c.fill-later.result long c.fill-later.ensures
    c.sort_unstable.ensures.permutation (c.has_twice.ensures.yes c.if-has_twice.true) in
    (t.0, t.1, omega (arith, t.2, m.first, c.chunks.invariant.2))

pub count_others-requires-clause-words : goal.count_others-requires-clause-words
count_others-requires-clause-words c =
    let m = least c.min-count.result c.chunks.size (c.chunks.fresh - c.chunks.done) c.min-count.ensures in
    let long : length c.fill-later.new.words ≡ c.min-count.result =
    omega (
      arith,
      c.fill-later.auto.words,
      length-take-le c.min-count.result c.chunks.words (omega (arith, m.first, c.chunks.invariant.2)),
    ) in
    left_here c.chunks.invariant.0 c.min-count.result m.second c.fill-later.new.words c.sort_unstable.new.self
    c.fill-later.result long c.fill-later.ensures c.sort_unstable.ensures.permutation

pub overflow_add-fresh-else-has_twice-2 : goal.overflow_add-fresh-else-has_twice-2
overflow_add-fresh-else-has_twice-2 c =
    let m = least c.min-count.result c.chunks.size (c.chunks.fresh - c.chunks.done) c.min-count.ensures in
    let long : length c.fill-later.new.words ≡ c.min-count.result =
    omega (
      arith,
      c.fill-later.auto.words,
      length-take-le c.min-count.result c.chunks.words (omega (arith, m.first, c.chunks.invariant.2)),
    ) in
    let f = found_within c.chunks.invariant.0 c.min-count.result m.second c.fill-later.new.words
    c.sort_unstable.new.self c.fill-later.result long c.fill-later.ensures
    c.sort_unstable.ensures.permutation c.count_others.result c.count_others.ensures in
    omega (arith, f, m.second, c.chunks-test.true, c.chunks.auto.fresh-fits)

pub chunks-smaller : goal.chunks-smaller
chunks-smaller c =
    let m = least c.min-count.result c.chunks.size (c.chunks.fresh - c.chunks.done) c.min-count.ensures in
    let long : length c.fill-later.new.words ≡ c.min-count.result =
    omega (
      arith,
      c.fill-later.auto.words,
      length-take-le c.min-count.result c.chunks.words (omega (arith, m.first, c.chunks.invariant.2)),
    ) in
    let f = found_within c.chunks.invariant.0 c.min-count.result m.second c.fill-later.new.words
    c.sort_unstable.new.self c.fill-later.result long c.fill-later.ensures
    c.sort_unstable.ensures.permutation c.count_others.result c.count_others.ensures in
    grind arith

pub chunks-preserved : goal.chunks-preserved
chunks-preserved c =
    let m = least c.min-count.result c.chunks.size (c.chunks.fresh - c.chunks.done) c.min-count.ensures in
    let long : length c.fill-later.new.words ≡ c.min-count.result =
    omega (
      arith,
      c.fill-later.auto.words,
      length-take-le c.min-count.result c.chunks.words (omega (arith, m.first, c.chunks.invariant.2)),
    ) in (
      with_once c.chunks.invariant.0 c.min-count.result m.second c.fill-later.new.words
          c.sort_unstable.new.self c.fill-later.result long c.fill-later.ensures
          c.sort_unstable.ensures.permutation (c.has_twice.ensures.no c.if-has_twice.false)
          c.count_others.result c.count_others.ensures,
      c.chunks.invariant.1,
      c.chunks.invariant.2,
    )

pub returns : goal.returns
returns c = new_words [] (variants_left c.args.first) c.chunks.fresh tt (variants_are c.args.first)
    (compare_ends c.chunks.invariant.0 c.chunks-test.false)
