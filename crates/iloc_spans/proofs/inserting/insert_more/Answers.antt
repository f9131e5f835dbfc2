use Rattle.std.proofs.Common.{◌≡◌, ◌≢◌, ◌<◌, ◌≤◌, ◌∷◌, ◌++◌, length, map, slice_index, take, drop, sym, ◌∙◌, arith}
use Rattle.std.proofs.lemmas.List.{get_or-map, take_all}
use Rattle.iloc_spans.specs.Spans.{held_spans}
use Rattle.iloc_spans.proofs.SortingSteps.{all_new, is_new, put_among, put_new, put_none, put_there}
use Rattle.iloc_spans.proofs.inserting.insert_more.Goals as goal
use Rattle.iloc_spans.proofs.inserting.insert_more.Goals.{else-at-held-via-then-at-held+else-held-at, else-at-held-via-else-at-held}

pub returns-then-held-at-clause-inserted : goal.returns-then-held-at-clause-inserted
returns-then-held-at-clause-inserted g c = λ before ss n s.
    let held = c.as_slice-held.result.now in
    let is = c.as_slice-held.ensures ∙ c.move_out.ensures.held in
    let at = c.place_of-at.result in
    let low : length before ≤ at = omega (arith, c.place_of-at.ensures.least) in
    let all = take_all (length held) held (omega arith) in
    let here = get_or-map (λ s. s.word) held at _ 0 c.if-at-held.true ∙ c.if-held-at.true in (
      sym c.as_slice-held.ensures ∙ sym all
          ∙ put_there (λ s. s.word) held before ss (length held) (omega arith) (all ∙ is ∙ s) c.args.span _
          low
          c.if-at-held.true here,
      put_among (λ s. s.word) held before ss (length held) (omega arith) (all ∙ is ∙ s) c.args.span _ low
          c.if-at-held.true here,
    )

pub returns-then-insert-clause-inserted : goal.returns-then-insert-clause-inserted
returns-then-insert-clause-inserted g c = λ before ss n s.
    let held = c.as_slice-held.result.now in
    let is = c.as_slice-held.ensures ∙ c.move_out.ensures.held in
    let p = c.place_of-at.ensures in
    let at = c.place_of-at.result in
    let low : length before ≤ at = omega (arith, p.least) in
    let all = take_all (length held) held (omega arith) in
    let differ : at < length held → slice_index (map (λ s. s.word) held) at ≢ c.args.span.word = λ l e.
    elim c.else-at-held.branch [
      | else-at-held-via-then-at-held+else-held-at w ↦
          w.if-held-at.false (sym (get_or-map (λ s. s.word) held at _ 0 l) ∙ e)
      | else-at-held-via-else-at-held w ↦ absurd (omega (arith, w.if-at-held.false))
    ] in
    let new = held_spans c.insert.new.self in
    let put : new ≡ take at held ++ c.args.span ∷ drop at held =
    c.insert.ensures.put c.if-insert.true
    ∙ (λ j.
    take at (sym c.as_slice-held.ensures j) ++ c.args.span ∷ drop at (sym c.as_slice-held.ensures j)) in (
      sym (all_new held new at c.args.span p.within put)
          ∙ put_new (λ s. s.word) held before ss (length held) (omega arith) (all ∙ is ∙ s) c.args.span at low
          p.within
          (λ l. p.after (omega arith)) p.before differ new (is_new held new at c.args.span p.within put),
      put_none (λ s. s.word) held before ss (length held) (omega arith) (all ∙ is ∙ s) c.args.span at low
          p.within
          (λ l. p.after (omega arith)) p.before differ,
    )
