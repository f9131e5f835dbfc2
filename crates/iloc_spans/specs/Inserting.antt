-- How a span comes to stand among others in order.
use Rattle.std.specs.Prelude.{◌≡◌, ◌⊎◌, ℕ, ◌<◌, ◌≤◌, Bool, true, false, List, [], ◌∷◌, ◌++◌, length, map, ⊤}
use Rattle.std.specs.Ordering.{nat_cmp}
use Rattle.iloc_spec_grammar.specs.Syntax.{IsAmong}
use Rattle.iloc_spec_grammar.specs.Meaning.{map_of}
use Rattle.iloc_spans.specs.declared.inserting.Inserted.{Inserted}
use Rattle.iloc_spans.specs.declared.inserting.Inserted.TheVariants.{Put, There, Full}
use Rattle.iloc_spans.specs.declared.span.Role.{Role}
use Rattle.iloc_spans.specs.declared.span.Role.TheVariants.{Variant, Attribute}
use Rattle.iloc_spans.specs.declared.span.Span.{Span}

-- what has a number, in the order of the numbers; of equal numbers the first stays
abbrev pub ordered_by : {X : Type 0} → (X → ℕ) → List X → List X
ordered_by number xs = map (λ (_, x). x) (map_of nat_cmp (map (λ x. (number x, x)) xs))

-- spans so
abbrev pub spans_in_order : List Span → List Span
spans_in_order ss = ordered_by (λ (s : Span). s.word) ss

-- the spans from a place on were some in order; now they are these and one more, if its number is not
-- among theirs
abbrev pub IsInserted : ℕ → Span → List Span → List Span → Inserted → Type 0
IsInserted from s old new Put = (before ss : List Span) → length before ≡ from
    → old ≡ before ++ spans_in_order ss
    → (new ≡ before ++ spans_in_order (ss ++ (s ∷ [])))
    × ¬ (IsAmong nat_cmp s.word (map (λ x. x.word) ss))
IsInserted from s old new There = (before ss : List Span) → length before ≡ from
    → old ≡ before ++ spans_in_order ss
    → (new ≡ before ++ spans_in_order (ss ++ (s ∷ [])))
    × IsAmong nat_cmp s.word (map (λ x. x.word) ss)
IsInserted from s old new Full = new ≡ old

-- few come of this role, so that each place is tried; words, which may be many, are put into a group
abbrev pub IsTried : Role → Type 0
IsTried Variant = ¬ ⊤
IsTried Attribute = ¬ ⊤
IsTried _ = ⊤

-- the span was put behind all others
abbrev pub IsBehind : Span → List Span → List Span → Inserted → Type 0
IsBehind s old new Put = new ≡ old ++ s ∷ []
IsBehind s old new There = ¬ ⊤
IsBehind s old new Full = new ≡ old

-- a span of a greater number than all others was put behind them, any other among those from a place
-- on; the text may still be in order only where the span is not edited and stands behind the others
abbrev pub IsPutFrom : ℕ → Span → List Span → List Span → ℕ → ℕ → Bool → Bool → Inserted → Type 0
IsPutFrom from s old new last now o n r =
    (last < s.word) × (now ≡ s.word) × (n ≡ true → (o ≡ true) × (s.edited ≡ false)) × IsBehind s old new r
    ⊎ (last ≤ now) × (s.word ≤ now) × (n ≡ false) × IsInserted from s old new r
