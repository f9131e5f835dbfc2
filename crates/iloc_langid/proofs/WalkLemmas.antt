-- Walks over pieces that look for the variants of a set.
use Rattle.std.proofs.Common.{◌≡◌, ℕ, zero, suc, ◌<◌, ◌≤◌, ◌==◌, Bool, true, false, ◌||◌, ◌&&◌, List, [], ◌∷◌, length, take, drop, replicate, slice_set, not, refl, sym, ap, ◌∙◌, subst, arith, true≢false}
use Rattle.std.specs.List.{AllByRecursion, HoldsAt, list_any}
use Rattle.std.specs.declared.cmp.Ordering.TheVariants.{Less, Equal}
use Rattle.std.proofs.Math.Dec.{eqb-suc-suc}
use Rattle.std.proofs.lemmas.Bool.{or_parts, false_from_ne_true}
use Rattle.std.proofs.lemmas.List.{take-append-drop}
use Rattle.std.proofs.lemmas.List.Folds.{list_all-append}
use Rattle.iloc_spec_grammar.specs.Syntax.{Text, Variant, is_word, lower, word_cmp, is_same, AllDifferent}
use Rattle.iloc_spec_grammar.specs.Values.{IsNormal}
use Rattle.iloc_spec_grammar.proofs.WordsLaws.{is_word-lower}
use Rattle.iloc_spec_grammar.proofs.MapLaws.{same_itself, same_is, same_words}
use Rattle.iloc_spec_grammar.proofs.ValuesLaws.{ascending_different}
use Rattle.iloc_langid.specs.Agreeing.{is_among, are_all_among, are_just, AreVariants}

-- other words are other words the other way round
pub apart : (v w : Text) → is_same v w ≡ false → is_same w v ≡ false
apart v w e = by (is_same w v) refl
  where
    by : (b : Bool) → is_same w v ≡ b → b ≡ false
    by true s =
        absurd (true≢false (sym (subst (λ x. is_same v x ≡ true) (sym (same_is w v s)) (same_itself v)) ∙ e))
    by false s = refl

-- a piece that is none of the words changes nothing
not_among : (p : Text) (ps ws : List Text) → list_any (is_same (lower p)) ws ≡ false →
    are_all_among (p ∷ ps) ws ≡ are_all_among ps ws
not_among p ps [] h = refl
not_among p ps (w ∷ ws) h =
    let parts = or_parts _ _ h in
    rw (apart _ _ parts.0) (ap (λ b. is_among ps w && b) (not_among p ps ws parts.1))

-- the piece is the first word
pub first_equal : (p w : Text) (ps ws : List Text) → AreVariants (w ∷ ws) → lower p ≡ w →
    are_just (p ∷ ps) (w ∷ ws) ≡ are_just ps ws
first_equal p w ps ws s e =
    let here : is_same w (lower p) ≡ true = subst (λ x. is_same w x ≡ true) (sym e) (same_itself w) in
    let gone : list_any (is_same (lower p)) ws ≡ false = subst (λ x. list_any (is_same x) ws ≡ false) (sym e)
    (false_from_ne_true _ (ascending_different (w ∷ ws) s.0).0) in
    rw (eqb-suc-suc (length ps) (length ws), here)
    (ap (λ b. (length ps == length ws) && b) (not_among p ps ws gone))

-- parts of a set

below_take : (x : Text) (n : ℕ) (ws : List Text) → AllByRecursion (λ w. word_cmp x w ≡ Less) ws →
    AllByRecursion (λ w. word_cmp x w ≡ Less) (take n ws)
below_take x zero ws h = tt
below_take x (suc n) [] h = tt
below_take x (suc n) (w ∷ ws) h = (h.0, below_take x n ws h.1)

pub front_set : (n : ℕ) (ws : List Text) → AreVariants ws → AreVariants (take n ws)
front_set zero ws s = (tt, tt)
front_set (suc n) [] s = s
front_set (suc n) (w ∷ ws) s = grind (arith, below_take, front_set n ws (s.0.1, s.1.1))

pub back_set : (n : ℕ) (ws : List Text) → AreVariants ws → AreVariants (drop n ws)
back_set zero ws s = s
back_set (suc n) [] s = s
back_set (suc n) (w ∷ ws) s = back_set n ws (s.0.1, s.1.1)

pub among_parts : (ps ws : List Text) (n : ℕ) →
    are_all_among ps ws ≡ (are_all_among ps (take n ws) && are_all_among ps (drop n ws))
among_parts ps ws n = ap (are_all_among ps) (sym (take-append-drop n ws))
    ∙ list_all-append (is_among ps) (take n ws) (drop n ws)

-- whether each word is marked as found, or is among the pieces that are left
abbrev pub are_found : List Text → List Text → List Bool → Bool
are_found ps [] found = true
are_found ps (w ∷ ws) [] = is_among ps w && are_found ps ws []
are_found ps (w ∷ ws) (b ∷ found) = (b || is_among ps w) && are_found ps ws found

pub none_found : (ps ws : List Text) (n : ℕ) → are_found ps ws (replicate n false) ≡ are_all_among ps ws
none_found ps [] n = refl
none_found ps (w ∷ ws) zero = grind (arith, none_found ps ws zero)
none_found ps (w ∷ ws) (suc n) = grind (arith, none_found ps ws n)

-- a piece that is none of the words marks none
pub other_found : (p : Text) (ps ws : List Text) (found : List Bool) →
    list_any (is_same (lower p)) ws ≡ false → are_found (p ∷ ps) ws found ≡ are_found ps ws found
other_found p ps [] found h = refl
other_found p ps (w ∷ ws) [] h = grind (arith, apart, other_found p ps ws)
other_found p ps (w ∷ ws) (b ∷ found) h =
    let parts = or_parts _ _ h in
    rw (apart _ _ parts.0) (ap (λ c. (b || is_among ps w) && c) (other_found p ps ws found parts.1))

-- a piece that is no variant is none of them
pub no_variant : (p : Text) (ws : List Text) → AllByRecursion (IsNormal Variant) ws →
    is_word Variant p ≡ false → list_any (is_same (lower p)) ws ≡ false
no_variant p [] n h = refl
no_variant p (w ∷ ws) n h = by (is_same (lower p) w) refl (no_variant p ws n.1 h)
  where
    by : (b : Bool) → is_same (lower p) w ≡ b → list_any (is_same (lower p)) ws ≡ false →
        (b || list_any (is_same (lower p)) ws) ≡ false
    by true s more = absurd
        (true≢false (sym n.0.0 ∙ ap (is_word Variant) (sym (same_is _ _ s)) ∙ is_word-lower Variant p ∙ h))
    by false s more = more

-- a word that stands later is not the first one
not_first : (p w : Text) (ws : List Text) (at : ℕ) → at < length ws → list_any (is_same w) ws ≡ false →
    HoldsAt (λ y. word_cmp y (lower p) ≡ Equal) ws at → is_same (lower p) w ≡ false
not_first p w [] at l d h = absurd (omega (arith, l))
not_first p w (v ∷ ws) zero l d h =
    apart w (lower p) (subst (λ x. is_same w x ≡ false) (same_words v (lower p) (h v)) (or_parts _ _ d).0)
not_first p w (v ∷ ws) (suc at) l d h = grind (arith, not_first p w ws at)

-- the piece at its place among the words is marked
pub one_found : (p : Text) (ps ws : List Text) (found : List Bool) (at : ℕ) → AllDifferent word_cmp ws →
    at < length ws → length ws ≤ length found
    → HoldsAt (λ y. word_cmp y (lower p) ≡ Equal) ws at →
    are_found (p ∷ ps) ws found ≡ are_found ps ws (slice_set found at true)
one_found p ps [] found at d l n h = absurd (omega (arith, l))
one_found p ps (w ∷ ws) [] at d l n h = absurd (omega (arith, n))
one_found p ps (w ∷ ws) (b ∷ found) zero d l n h =
    let same : w ≡ lower p = same_words w (lower p) (h w) in
    let here : is_same w (lower p) ≡ true = subst (λ x. is_same w x ≡ true) same (same_itself w) in
    let gone : list_any (is_same (lower p)) ws ≡ false =
    subst (λ x. list_any (is_same x) ws ≡ false) same (false_from_ne_true _ d.0) in
    rw here (found_now b ∙ other_found p ps ws found gone)
  where
    found_now : (b : Bool) → ((b || true) && are_found (p ∷ ps) ws found) ≡ are_found (p ∷ ps) ws found
    found_now true = refl
    found_now false = refl
one_found p ps (w ∷ ws) (b ∷ found) (suc at) d l n h =
    rw (apart _ _ (not_first p w ws at (omega (arith, l)) (false_from_ne_true _ d.0) h)) (ap
    (λ c. (b || is_among ps w) && c) (one_found p ps ws found at d.1 (omega (arith, l)) (omega (arith, n)) h))

-- after the last piece all words are found where no mark is missing
pub all_found : (is_missing : Bool → Bool) → is_missing true ≡ false → is_missing false ≡ true →
    (ws : List Text) (found : List Bool)
    → length ws ≤ length found → are_found [] ws found ≡ not (list_any is_missing (take (length ws) found))
all_found is_missing t f [] found l = refl
all_found is_missing t f (w ∷ ws) [] l = absurd (omega (arith, l))
all_found is_missing t f (w ∷ ws) (true ∷ found) l = grind (arith, all_found is_missing t f ws found)
all_found is_missing t f (w ∷ ws) (false ∷ found) l = rw f refl
