-- The length of printed keywords, pair by pair.
use Rattle.std.proofs.Common.{◌≡◌, ℕ, ◌+◌, ◌<◌, ◌≤◌, ◌^◌, List, [], ◌∷◌, ◌++◌, Some, None, length, drop, Bool, true, false, nat_lt, refl, sym, ap, ◌∙◌, arith, get_or}
use Rattle.std.proofs.lemmas.Grind.{flat_map-append}
use Rattle.std.proofs.lemmas.List.{length-append, at_drop_more}
use Rattle.iloc_spec_grammar.specs.Syntax.{Text, Field, Fields, join, dashes, fields_pieces}
use Rattle.iloc_writeable.proofs.PiecesLemmas.{join-cons}
use Rattle.iloc_writeable.specs.Hints.{fitting}

-- the length of the pairs that are left, where h bytes stand before the next key
abbrev pub rest_length : ℕ → Fields → ℕ
rest_length h [] = 0
rest_length h ((key, ws) ∷ fs) = h + length key + length (dashes ws) + rest_length 1 fs

dashes_both : (ps qs : List Text) → length (dashes (ps ++ qs)) ≡ length (dashes ps) + length (dashes qs)
dashes_both ps qs = ap length (flat_map-append (λ p. 45 ∷ p) ps qs) ∙ length-append (dashes ps) (dashes qs)

pub after_hyphen : (fs : Fields) → length (dashes (fields_pieces fs)) ≡ rest_length 1 fs
after_hyphen [] = refl
after_hyphen ((key, ws) ∷ fs) =
    let one = length-append key (dashes (ws ++ fields_pieces fs)) in
    omega (arith, one, dashes_both ws (fields_pieces fs), after_hyphen fs)

pub whole_length : (fs : Fields) → length (join (fields_pieces fs)) ≡ rest_length 0 fs
unfolding join
whole_length [] = refl
whole_length ((key, ws) ∷ fs) =
    let first = ap length (join-cons key (ws ++ fields_pieces fs)) in
    let one = length-append key (dashes (ws ++ fields_pieces fs)) in
    omega (arith, first, one, dashes_both ws (fields_pieces fs), after_hyphen fs)

pub fits : (n : ℕ) → n < 2 ^ 64 → Some n ≡ fitting n
fits n h = grind (arith)

pub does_not_fit : (n : ℕ) → 2 ^ 64 ≤ n → None ≡ fitting n
does_not_fit n h = grind (arith)

-- what a sum says that fits, or does not
pub sum_is : (s n : ℕ) → Some s ≡ fitting n → (s ≡ n) × (n < 2 ^ 64)
sum_is s n h = by_test (nat_lt n (2 ^ 64)) refl
  where
    by_test : (b : Bool) → b ≡ nat_lt n (2 ^ 64) → (s ≡ n) × (n < 2 ^ 64)
    by_test true t = grind (arith, h, t)
    by_test false t = grind (arith, h, t)

pub sum_is_not : (n : ℕ) → None ≡ fitting n → 2 ^ 64 ≤ n
sum_is_not n h = grind (arith, h)

-- one pair more
pub next_pair : (h : ℕ) (fs : Fields) (i : ℕ) (f : Field) → i < length fs → f ≡ get_or fs i f →
    length f.0 ≡ 2 →
    rest_length h (drop i fs) ≡ h + 2 + length (dashes f.1) + rest_length 1 (drop (i + 1) fs)
next_pair h fs i f l e two =
    let step : rest_length h (drop i fs) ≡ rest_length h (get_or fs i f ∷ drop (i + 1) fs) =
    at_drop_more (rest_length h) fs i f l in
    step
    ∙ ap (λ (x : Field). rest_length h (x ∷ drop (i + 1) fs)) (sym e)
    ∙ ap (λ n. h + n + length (dashes f.1) + rest_length 1 (drop (i + 1) fs)) two
