use Rattle.std.proofs.Common.{arith, refl, sym, ◌∙◌}
use Rattle.std.proofs.lemmas.List.{length-take-le}
use Rattle.iloc_faults.proofs.Walks.{walk_stops, walk_on, walk_all, all_good, all_short, none_else}
use Rattle.iloc_faults.proofs.walk.walk_from.Goals as goal

pub pieces-init : goal.pieces-init
pieces-init g c = c.requires.walked

pub returns-in_default-clause-bad : goal.returns-in_default-clause-bad
returns-in_default-clause-bad g c =
    let w = c.pieces.invariant in
    walk_stops w
    (grind (arith, none_else)) _ c.refusal.ensures refl c.end_of.ensures

pub next-at-requires-clause-short : goal.next-at-requires-clause-short
next-at-requires-clause-short g c =
    let w = c.pieces.invariant in
    (c.in-Some.ensures w.variants w.seen w.read).3

pub pieces-preserved : goal.pieces-preserved
pieces-preserved g c = let w = c.pieces.invariant in
    walk_on w c.in-Some.then (c.in-Some.ensures w.variants w.seen w.read) c.next-at.ensures

pub returns-then-may_end-clause-good : goal.returns-then-may_end-clause-good
returns-then-may_end-clause-good g c _ =
    let w = c.pieces.invariant in
    all_good
    (walk_all w c.in-Some.then (c.in-Some.ensures w.variants w.seen w.read)
    (c.is_last.ensures.0 c.if-is_last.true)) (sym c.may_end.ensures ∙ c.if-may_end.true)

pub returns-clause-bad : goal.returns-clause-bad
returns-clause-bad g c =
    let w = c.pieces.invariant in
    all_short
    (walk_all w c.in-Some.then (c.in-Some.ensures w.variants w.seen w.read)
    (c.is_last.ensures.0 c.if-is_last.true))
    (sym c.may_end.ensures ∙ c.if-may_end.false) _ refl
    (sym (length-take-le c.args.len c.args.first.window.now c.requires.inside))
    (sym (length-take-le c.args.len c.args.first.window.now c.requires.inside))
