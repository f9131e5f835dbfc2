use Rattle.std.proofs.Common.{◌≡◌, ◌-◌, ◌+◌, ◌++◌, drop, take, sym, ap, ◌∙◌, arith}
use Rattle.std.proofs.lemmas.List.{drop-drop, drop-take, take-take}
use Rattle.iloc_spans.specs.Spans.{held_spans}
use Rattle.iloc_spans.proofs.HeldLemmas.{held_in_place, in_place}
use Rattle.iloc_spans.proofs.spans.Spans.turn.Goals as goal

pub returns-clause-turned : goal.returns-clause-turned
returns-clause-turned c =
    let old = c.args.self.now in
    let at = c.args.at in
    let from = c.args.from in
    let some = c.if-self-eq0.false in
    let held = held_in_place old some in
    let low = c.requires.low in
    let high = c.requires.high in
    let m : at + (from - at) ≡ from = omega (arith, low) in
    let n : from + (old.count - from) ≡ old.count = omega (arith, high) in
    let front : take at old.list ≡ take at (held_spans old) =
    sym (take-take at old.count old.list (omega (arith, low, high))) ∙ ap (take at) (sym held) in
    let behind : take (old.count - from) (drop from old.list) ≡ drop (from - at) (drop at (held_spans old)) =
    sym (drop-take from (old.count - from) old.list) ∙ ap (λ k. drop from (take k old.list)) n
    ∙ ap (drop from) (sym held) ∙ ap (λ k. drop k (held_spans old)) (sym m)
    ∙ sym (drop-drop (from - at) at (held_spans old)) in
    let between : drop at (take from old.list) ≡ take (from - at) (drop at (held_spans old)) =
    ap (drop at) (sym (take-take from old.count old.list high) ∙ ap (take from) (sym held))
    ∙ ap (λ k. drop at (take k (held_spans old))) (sym m) ∙ drop-take at (from - at) (held_spans old) in
    in_place c.turn_in_place.new.list old.count old.room old.more some ∙ c.turn_in_place.ensures.turned
    ∙ (λ j. front j ++ (behind j ++ between j))

pub invariant_of-self-2-clause-long : goal.invariant_of-self-2-clause-long
invariant_of-self-2-clause-long c = c.turn_in_place.ensures.long
