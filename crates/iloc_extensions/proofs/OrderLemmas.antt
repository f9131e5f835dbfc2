-- One order, and then another.
use Rattle.std.proofs.Common.{◌≡◌, arith}
use Rattle.std.specs.Ordering.{MatchOrdering, ordering_then}
use Rattle.std.specs.declared.cmp.Ordering.{Ordering}
use Rattle.std.specs.declared.cmp.Ordering.TheVariants.{Less, Greater}

pub chained : (first result second : Ordering) (P : Type 0) →
    MatchOrdering first (result ≡ Less) P (result ≡ Greater) → (P → result ≡ second) →
    result ≡ ordering_then first second
chained first result second P h k = grind arith

pub regrouped : (first second third : Ordering) →
    ordering_then (ordering_then first second) third ≡ ordering_then first (ordering_then second third)
regrouped first second third = grind arith
