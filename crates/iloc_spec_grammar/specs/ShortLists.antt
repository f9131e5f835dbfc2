-- The order of lists that keep an item in place. This project's rule, as in the Rust crate.
use Rattle.std.specs.Prelude.{List, length, nat_lt}
use Rattle.std.specs.Ordering.{bool_cmp, on, then_cmp}
use Rattle.std.specs.declared.cmp.Ordering.{Ordering}
use Rattle.std.specs.Cmp.Lexicographic.{slice_cmp}

-- Lists of at most one item come before all longer ones, and within each class the first different
-- item decides, or else the length. So are variants, attributes, values, private words, the words
-- of other extensions and the pairs of keywords; the pairs of fields and the list of others are
-- compared by items alone.
abbrev pub short_cmp : {X : Type 0} → (X → X → Ordering) → List X → List X → Ordering
short_cmp cmp = then_cmp (on (λ xs. nat_lt 1 (length xs)) bool_cmp) (slice_cmp cmp)
