use Rattle.std.proofs.Common.{◌≢◌, ◌+◌, ◌<◌, ◌≤◌, length, map, slice_index, sym, ◌∙◌, arith}
use Rattle.std.proofs.lemmas.List.{get_or-map}
use Rattle.iloc_spans.proofs.SortingSteps.{put_among, put_new, put_none, put_there, same_long}
use Rattle.iloc_spans.proofs.HeldLemmas.{held_in_place, in_place, room_in_place}
use Rattle.iloc_spans.proofs.inserting.insert_in_place.Goals as goal
use Rattle.iloc_spans.proofs.inserting.insert_in_place.Goals.{else-at-count-via-then-at-count+else-list-at, else-at-count-via-else-at-count}

pub returns-then-list-at-clause-inserted : goal.returns-then-list-at-clause-inserted
returns-then-list-at-clause-inserted c = λ before ss n s.
    let old = c.args.spans.now in
    let few : old.count < 64 = c.requires.few in
    let place = held_in_place old (room_in_place old few) in
    let l = c.if-at-count.true in
    let at = c.place_of-at.result in
    let inside : old.count ≤ length old.list = omega (arith, few, old.long) in
    let here = get_or-map (λ s. s.word) old.list at _ 0 (omega (arith, inside)) ∙ c.if-list-at.true in
    let low : length before ≤ c.place_of-at.result = omega (arith, c.place_of-at.ensures.least) in (
      place
          ∙ put_there (λ s. s.word) old.list before ss old.count inside (sym place ∙ s) c.args.span _ low l
          here,
      put_among (λ s. s.word) old.list before ss old.count inside (sym place ∙ s) c.args.span _ low l here,
    )

pub invariant_of-spans-2-clause-within : goal.invariant_of-spans-2-clause-within
invariant_of-spans-2-clause-within c =
    let old = c.args.spans.now in
    λ some. ((old.within some).0, omega (arith, c.requires.few))

pub invariant_of-spans-2-clause-long : goal.invariant_of-spans-2-clause-long
invariant_of-spans-2-clause-long c =
    let old = c.args.spans.now in
    same_long old.list c.insert_at.new.list old.count c.place_of-at.result c.args.span
    c.place_of-at.ensures.within (omega (arith, old.long, c.requires.few)) c.insert_at.ensures.front
    c.insert_at.ensures.back ∙ old.long

pub returns-clause-inserted : goal.returns-clause-inserted
returns-clause-inserted c = λ before ss n s.
    let old = c.args.spans.now in
    let few : old.count < 64 = c.requires.few in
    let some = room_in_place old few in
    let place = held_in_place old some in
    let p = c.place_of-at.ensures in
    let inside : old.count ≤ length old.list = omega (arith, few, old.long) in
    let low : length before ≤ c.place_of-at.result = omega (arith, p.least) in
    let at = c.place_of-at.result in
    let differ : at < old.count → slice_index (map (λ s. s.word) old.list) at ≢ c.args.span.word = λ l e.
    elim c.else-at-count.branch [
      | else-at-count-via-then-at-count+else-list-at w ↦
          w.if-list-at.false (sym (get_or-map (λ s. s.word) old.list at _ 0 (omega (arith, inside))) ∙ e)
      | else-at-count-via-else-at-count w ↦ absurd (omega (arith, w.if-at-count.false))
    ] in (
      in_place c.insert_at.new.list (old.count + 1) old.room old.more some
          ∙ put_new (λ s. s.word) old.list before ss old.count inside (sym place ∙ s) c.args.span at low
          p.within
          (λ l. p.after (omega arith)) p.before
          differ c.insert_at.new.list c.insert_at.ensures.front,
      put_none (λ s. s.word) old.list before ss old.count inside (sym place ∙ s) c.args.span at low p.within
          (λ l. p.after (omega arith)) p.before
          differ,
    )
