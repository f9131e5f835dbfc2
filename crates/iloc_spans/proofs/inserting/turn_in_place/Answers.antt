use Rattle.std.proofs.Common.{rules, refl, ◌≡◌, ◌+◌, ◌-◌, ◌++◌, take, drop, ap, ◌∙◌, arith, sym}
use Rattle.std.proofs.lemmas.List.{take-append-drop, take-take}
use Rattle.iloc_spans.proofs.SortingSteps.{moved_more, same_later}
use Rattle.iloc_spans.proofs.inserting.turn_in_place.Goals as goal

pub loop-i-init : goal.loop-i-init
loop-i-init c =
    let old = c.args.list.now in
    let none : c.args.from - c.args.from ≡ 0 = omega arith in
    record {
      long = search rules;
      moved = sym (take-append-drop c.args.at (take c.args.from old))
          ∙ (λ j. take-take c.args.at c.args.from old c.requires.low j
          ++ (take (sym none j) (drop c.args.from old) ++ drop c.args.at (take c.args.from old)));
      rest = refl;
    }

pub loop-i-preserved : goal.loop-i-preserved
loop-i-preserved c =
    let now = c.loop-i.list in
    let old = c.args.list.now in
    let h = c.loop-i.invariant in
    record {
      long = c.insert_at.array_long;
      moved = moved_more old now c.insert_at.new.list c.args.at c.args.from c.loop-i.i _
          c.requires.low c.loop-i.auto.i (omega arith)
          (omega (arith, h.long)) h.moved h.rest c.insert_at.ensures.front;
      rest = c.insert_at.ensures.back ∙ same_later now old c.loop-i.i (c.loop-i.i + 1) (omega arith) h.rest;
    }

pub returns-clause-turned : goal.returns-clause-turned
returns-clause-turned c =
    let old = c.args.list.now in
    let all : c.loop-i.i ≡ c.args.count = omega (arith, c.loop-i-test.false, c.requires.high) in
    ap (λ k. take k c.loop-i.list) (sym all) ∙ c.loop-i.invariant.moved
    ∙ ap (λ k. take c.args.at old ++ (take (k - c.args.from)
    (drop c.args.from old) ++ drop c.args.at (take c.args.from old))) all
