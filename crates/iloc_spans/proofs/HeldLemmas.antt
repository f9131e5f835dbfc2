-- Where spans stand, and how many they are.
use Rattle.std.proofs.Common.{Option, ◌≡◌, ◌≢◌, ◌<◌, ◌≤◌, ℕ, Bool, if◌then◌else◌, ◌==◌, true, false, List, length, take, refl, sym, ap, arith}
use Rattle.std.proofs.lemmas.Bool.Decides.{nat_tests}
use Rattle.std.proofs.lemmas.List.{length-take-le}
use Rattle.iloc_spans.specs.More.{more_spans}
use Rattle.iloc_spans.specs.Spans.{held_spans}
use Rattle.iloc_spans.specs.declared.more.More.{More}
use Rattle.iloc_spans.specs.declared.span.Span.{Span}
use Rattle.iloc_spans.specs.declared.spans.Spans.{Spans}

-- there are as many as the count says
pub length-held : (spans : Spans) → length (held_spans spans) ≡ spans.count
length-held spans = at (spans.room == 0) refl
  where
    at : (b : Bool) → (spans.room == 0) ≡ b
        → length (if b then more_spans spans.more else take spans.count spans.list) ≡ spans.count
    at true e = sym (spans.many (grind (arith, nat_tests, e))).0
    at false e =
        let some : spans.room ≢ 0 = grind (arith, nat_tests, e) in
        let few : spans.count ≤ 64 = (spans.within some).1 in
        length-take-le spans.count spans.list (omega (arith, few, spans.long))

-- they stand in place where fewer than the room are there
pub in_place : (list : List Span) (count room : ℕ) (more : Option More) → room ≢ 0
    → (if room == 0 then more_spans more else take count list) ≡ take count list
in_place list count room more some =
    let told : (room == 0) ≡ false = grind (arith, nat_tests, some) in
    ap (λ b. if b then more_spans more else take count list) told

pub held_in_place : (s : Spans) → s.room ≢ 0 → held_spans s ≡ take s.count s.list
held_in_place s some = in_place s.list s.count s.room s.more some

pub room_in_place : (s : Spans) → s.count < 64 → s.room ≢ 0
room_in_place s few none = absurd (omega (arith, few, (s.many none).1))
