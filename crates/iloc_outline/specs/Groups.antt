-- Parts in groups: each block is one, and its singleton comes first.
use Rattle.std.specs.Prelude.{◌≡◌, ◌≢◌, ◌&&◌, ℕ, nat_lt, Bool, true, false, List, [], ◌∷◌, flat_map}
use Rattle.std.specs.List.{AllByRecursion}
use Rattle.iloc_outline.specs.Parts.{Part}
use Rattle.iloc_spans.specs.declared.span.Role.{Role}
use Rattle.iloc_spans.specs.declared.span.Role.TheVariants.{Singleton}

-- the parts of all groups
abbrev pub parts_in : List (ℕ × List Part) → List Part
parts_in gs = flat_map (λ (_, ps). ps) gs

-- a singleton of that rank, and parts that are no singletons
abbrev pub IsGroup : ℕ × List Part → Type 0
IsGroup (r, []) = ⊥
IsGroup (r, p ∷ ps) = (p.role ≡ Singleton) × (p.word ≡ r) × AllByRecursion (λ q. q.role ≢ Singleton) ps

-- parts that are no singletons come before groups
abbrev pub AreGroups : List Part → List (ℕ × List Part) → Type 0
AreGroups before gs = AllByRecursion (λ q. q.role ≢ Singleton) before × AllByRecursion IsGroup gs

-- whether a span is a singleton
abbrev pub is_singleton : Role → Bool
is_singleton Singleton = true
is_singleton _ = false

-- whether it is one of a greater rank
abbrev pub is_greater : ℕ → Role → ℕ → Bool
is_greater rank role word = is_singleton role && nat_lt rank word
