-- From the first piece of one byte to the first block.
use Rattle.std.proofs.Common.{◌≡◌, ◌≢◌, ℕ, zero, suc, ◌+◌, ◌-◌, ◌/◌, ◌^◌, ◌<◌, ◌≤◌, Bool, true, false, cond, min, List, [], ◌∷◌, ◌++◌, length, map, get_or, take, drop, bit_and, w64, refl, sym, ap, ◌∙◌, arith, inl, inr}
use Rattle.std.specs.Int.{bit_at}
use Rattle.std.specs.List.{AllByRecursion, onto_first}
use Rattle.std.proofs.lemmas.Bool.{cases_Bool, eqb-true, true≢false}
use Rattle.std.proofs.lemmas.Bool.Decides.{nat_tests}
use Rattle.std.proofs.lemmas.List.{get_or-drop, get_or-take, length-drop, length-map, length-take-le}
use Rattle.std.proofs.lemmas.List.Splits.{slice_split-cons_yes, slice_split-cons_no}
use Rattle.std.proofs.lemmas.Nat.{and_le_l}
use Rattle.std.proofs.lemmas.Nat.Bits.{bit_at-suc, bit_at-trailing_zeros, bit_at_and}
use Rattle.std.proofs.lemmas.Simd.{bit_mask_l, mask_l-lt}
use lib.Count.{count_trailing_zeros}
use lib.Lanes.{mask_l}
use Rattle.iloc_spec_grammar.specs.Syntax.{Text, pieces, first_piece, is_one_byte, is_word, Script, Region, IsWord, Language, Variant, languages}
use Rattle.iloc_spec_grammar.specs.Reading.{past, skip_first, starts_block, after_region}
use Rattle.iloc_spec_grammar.proofs.PiecesLaws.{at_pieces}
use Rattle.iloc_spec_grammar.proofs.Readings.{IsLong, long_script, long_region, long_variant}
use Rattle.iloc_pieces.specs.Run.{IsFirstSingle, is_hyphen}
use Rattle.iloc_pieces.specs.Front.{IsFound}
use Rattle.iloc_pieces.specs.declared.window.Window.{Window}
use Rattle.iloc_pieces.proofs.FrontLemmas.{behind as behind_first, later_bytes}
use Rattle.iloc_spec_grammar.proofs.Singletons.{two_more}

-- ---- in a mask of hyphens

marked : (v : Text) (i : ℕ) → get_or (map is_hyphen v) i false ≡ true →
    (is_hyphen (get_or v i 0) ≡ true) × (i < length v)
marked [] i e = absurd (cc)
marked (b ∷ v) zero e = (e, omega arith)
marked (b ∷ v) (suc i) e = grind (arith, marked v i e)

mark_of : (v : Text) (i : ℕ) → i < length v → get_or (map is_hyphen v) i false ≡ is_hyphen (get_or v i 0)
mark_of [] i l = absurd (omega arith)
mark_of (b ∷ v) zero l = refl
mark_of (b ∷ v) (suc i) l = mark_of v i (omega arith)

both_set : (a b : Bool) → min (cond a 1 0) (cond b 1 0) ≡ 1 → (a ≡ true) × (b ≡ true)
both_set a b h = grind arith

not_both : (a b : Bool) → min (cond a 1 0) (cond b 1 0) ≡ 0 → a ≡ true → b ≡ false
not_both a b h k = grind arith

module _ (w : Text) (m : ℕ) (wide : 16 ≤ length w) (e : m ≡ mask_l (map is_hyphen (take 16 w)))
    (some : 0 < bit_and m (m / 4)) where
  abbrev v : Text
  v = take 16 w

  abbrev n : ℕ
  n = count_trailing_zeros 64 (bit_and m (m / 4))

  abbrev mark : ℕ → Bool
  mark i = get_or (map is_hyphen v) i false

  long : length v ≡ 16
  long = length-take-le 16 w wide

  small : bit_and m (m / 4) < 2 ^ 64
  small = grind (arith, mask_l-lt, length-map, long, and_le_l)

  lowest : (n < 64) × (bit_at (bit_and m (m / 4)) n ≡ 1)
      × ((i : ℕ) → i < n → bit_at (bit_and m (m / 4)) i ≡ 0)
  lowest = bit_at-trailing_zeros w64 (bit_and m (m / 4)) some small

  low : (i : ℕ) → bit_at m i ≡ cond (mark i) 1 0
  low i = ap (λ x. bit_at x i) e ∙ bit_mask_l (map is_hyphen v) i

  high : (i : ℕ) → bit_at (m / 4) i ≡ cond (mark (suc (suc i))) 1 0
  high i =
      let halves : m / 4 ≡ m / 2 / 2 = omega arith in
      ap (λ x. bit_at x i) halves ∙ sym (bit_at-suc (m / 2) i) ∙ sym (bit_at-suc m (suc i))
      ∙ low (suc (suc i))

  both : (i : ℕ) → bit_at (bit_and m (m / 4)) i ≡ min (cond (mark i) 1 0) (cond (mark (suc (suc i))) 1 0)
  both i = grind (arith, bit_at_and, low, high)

  set : (mark n ≡ true) × (mark (suc (suc n)) ≡ true)
  set = grind (arith, both_set, both, lowest)

  shown : (i : ℕ) → mark i ≡ true → is_hyphen (get_or w i 0) ≡ true
  shown i h =
      let there = marked v i h in
      ap is_hyphen (sym (get_or-take 16 w i 0 (omega (arith, there.1, long)))) ∙ there.0

  -- the lowest bit that is set both in the mask and two bits later
  pub single_is : IsFirstSingle w (count_trailing_zeros 64 (bit_and m (m / 4)))
  single_is = record {
    few = omega (arith, (marked v (suc (suc n)) (set.1)).1, long);
    there = shown n (set.0);
    after = shown (suc (suc n)) (set.1);
    first = λ i less hyphen.
        let few : suc (suc i) < length v = omega (arith, (marked v (suc (suc n)) (set.1)).1) in
        let none = not_both (mark i) (mark (suc (suc i))) (sym (both i) ∙ lowest.2 i less)
        (mark_of v i (omega arith) ∙ ap is_hyphen (get_or-take 16 w i 0 (omega (arith, long))) ∙ hyphen) in
        ap is_hyphen (sym (get_or-take 16 w (suc (suc i)) 0 (omega (arith, long))))
        ∙ sym (mark_of v (suc (suc i)) few) ∙ none;
  }

-- ---- in the pieces

-- no hyphen of the first k bytes has another one two bytes later
abbrev NoneBefore : Text → ℕ → Type 0
NoneBefore t k =
    (i : ℕ) → i < k → is_hyphen (get_or t i 0) ≡ true → is_hyphen (get_or t (suc (suc i)) 0) ≡ false

-- a first piece before a hyphen is long if no hyphen follows its first byte
first_long : (t : Text) (k : ℕ) → k < length t → is_hyphen (get_or t k 0) ≡ true →
    is_hyphen (get_or t 1 0) ≡ false → IsLong (first_piece (pieces t))
unfolding pieces
first_long [] k l h e = absurd (omega arith)
first_long (c ∷ []) zero l h e = grind (arith, slice_split-cons_yes)
first_long (c ∷ []) (suc k) l h e = absurd (omega arith)
first_long (c ∷ d ∷ t) k l h e =
    grind (arith, cases_Bool, slice_split-cons_yes, slice_split-cons_no, at_pieces, two_more)

-- long pieces, after a first one, come before the others
record IsCut (t : Text) (rest : List Text) : Type 0 where
  first : Text
  between : List Text
  cut : pieces t ≡ first ∷ (between ++ rest)
  long : AllByRecursion IsLong between

cut_single : (t : Text) (k : ℕ) → k < length t → is_hyphen (get_or t k 0) ≡ true → NoneBefore t k →
    IsCut t (pieces (drop (suc k) t))
unfolding pieces
cut_single [] k l h none = absurd (omega arith)
cut_single (c ∷ t) zero l h none =
    record { first = []; between = []; cut = slice_split-cons_yes is_hyphen c t h; long = tt }
cut_single (c ∷ t) (suc k) l h none =
    let r = cut_single t k (omega arith) h (λ i less. none (suc i) (omega arith)) in
    elim (cases_Bool (is_hyphen c)) [
      | inl is ↦
          record {
            first = [];
            between = r.first ∷ r.between;
            cut = slice_split-cons_yes is_hyphen c t is ∙ ap (λ ps. [] ∷ ps) r.cut;
            long = grind (arith, first_long);
          }
      | inr other ↦
          record {
            first = c ∷ r.first;
            between = r.between;
            cut = slice_split-cons_no is_hyphen c t other ∙ ap (onto_first c) r.cut;
            long = r.long;
          }
    ]

-- ---- after the words that fit

record IsAhead (rest ps : List Text) : Type 0 where
  between : List Text
  cut : ps ≡ between ++ rest
  long : AllByRecursion IsLong between

module _ (r : Text) (rs : List Text) (one : is_one_byte r ≡ true) where
  -- words have more than a byte
  fails : (f : Text → Bool) → ((p : Text) → f p ≡ true → IsLong p) → f r ≡ false
  fails f word = grind (arith, cases_Bool, one)

  skips : (f : Text → Bool) → ((p : Text) → f p ≡ true → IsLong p) → (qs : List Text) →
      AllByRecursion IsLong qs → IsAhead (r ∷ rs) (skip_first f (qs ++ r ∷ rs))
  skips f word [] h = grind (arith, fails, long)
  skips f word (q ∷ qs) h = elim (cases_Bool (f q)) [
    | inl is ↦ grind (arith, long)
    | inr other ↦ record {
      between = q ∷ qs;
      cut = ap (λ (b : Bool). cond b (qs ++ r ∷ rs) (q ∷ (qs ++ r ∷ rs))) other;
      long = h;
    }
  ]

  passes : (f : Text → Bool) → ((p : Text) → f p ≡ true → IsLong p) → (qs : List Text) →
      AllByRecursion IsLong qs → IsAhead (r ∷ rs) (past f (qs ++ r ∷ rs))
  passes f word [] h = grind (arith, fails, long)
  passes f word (q ∷ qs) h = elim (cases_Bool (f q)) [
    | inl is ↦
        grind (arith, passes f word qs h.1, long)
    | inr other ↦ record {
      between = q ∷ qs;
      cut = ap (λ (b : Bool). cond b (past f (qs ++ r ∷ rs)) (q ∷ (qs ++ r ∷ rs))) other;
      long = h;
    }
  ]

  starts : (qs : List Text) → AllByRecursion IsLong qs → starts_block (qs ++ r ∷ rs) ≡ true →
      qs ++ r ∷ rs ≡ r ∷ rs
  starts [] h e = refl
  starts (q ∷ qs) h e = absurd (true≢false (sym e ∙ h.0))

  next_block : (p : Text) (qs : List Text) → AllByRecursion IsLong qs
      → starts_block (past (is_word Variant) (after_region (p ∷ (qs ++ r ∷ rs)))) ≡ true
      → past (is_word Variant) (after_region (p ∷ (qs ++ r ∷ rs))) ≡ r ∷ rs
  next_block p qs h =
      let s = skips (is_word Script) long_script qs h in
      let g = skips (is_word Region) long_region s.between s.long in
      let v = passes (is_word Variant) long_variant g.between g.long in
      grind (arith, starts)

-- a block that follows the words of an identifier begins with the first piece of one byte
pub next_is : (t : Text) (k : ℕ) → k < length t → is_hyphen (get_or t k 0) ≡ true → NoneBefore t k
    → (c : ℕ) → first_piece (pieces (drop (suc k) t)) ≡ c ∷ []
    → starts_block (past (is_word Variant) (after_region (pieces t))) ≡ true
    → past (is_word Variant) (after_region (pieces t)) ≡ pieces (drop (suc k) t)
next_is t k l h none c one = let r = cut_single t k l h none in grind (arith, at_pieces, next_block)

-- what comes before a hyphen, and what follows it
cut_text : (t : Text) (k : ℕ) → k < length t → is_hyphen (get_or t k 0) ≡ true →
    t ≡ take k t ++ 45 ∷ drop (suc k) t
cut_text [] k l h = absurd (omega arith)
cut_text (c ∷ t) zero l h = ap (λ b. b ∷ t) (eqb-true c 45 h)
cut_text (c ∷ t) (suc k) l h = grind (arith, cut_text t k)

-- a byte between hyphens is a piece
pub one_between : (t : Text) → is_hyphen (get_or t 0 0) ≡ false → is_hyphen (get_or t 1 0) ≡ true →
    1 < length t → first_piece (pieces t) ≡ get_or t 0 0 ∷ []
unfolding pieces
one_between [] a b l = absurd (omega arith)
one_between (c ∷ []) a b l = absurd (omega arith)
one_between (c ∷ d ∷ t) a b l = grind (arith, slice_split-cons_no, slice_split-cons_yes)

-- ---- in a line

module _ (w : Text) (len at : ℕ) (room : len + 16 ≤ length w) (s : IsFirstSingle w at)
    (inside : at + 2 < len) (other : get_or w (at + 1) 0 ≢ 45) where
  abbrev text : Text
  text = take len w

  -- what follows the hyphen, in the rest of the window
  abbrev window : Text
  window = take (length w - (at + 1)) (drop (at + 1) w)

  rest : drop (suc at) text ≡ take (len - at - 1) window
  rest = later_bytes w len at (omega arith) (omega arith)

  hyphen_at : (i : ℕ) → i < len → is_hyphen (get_or text i 0) ≡ is_hyphen (get_or w i 0)
  hyphen_at i l = ap is_hyphen (get_or-take len w i 0 l)

  behind : (i k : ℕ) → suc at + i ≡ k → k < len →
      is_hyphen (get_or (drop (suc at) text) i 0) ≡ is_hyphen (get_or w k 0)
  behind i k e l =
      ap is_hyphen (get_or-drop (suc at) text i 0) ∙ ap (λ n. is_hyphen (get_or text n 0)) e ∙ hyphen_at k l

  no_hyphen : is_hyphen (get_or w (at + 1) 0) ≡ false
  no_hyphen = grind (arith, nat_tests)

  one : first_piece (pieces (drop (suc at) text)) ≡ get_or (drop (suc at) text) 0 0 ∷ []
  one =
      one_between (drop (suc at) text) (behind 0 (at + 1) (omega arith) (omega arith) ∙ no_hyphen)
      (behind 1 (suc (suc at)) (omega arith) (omega arith) ∙ s.after)
      (omega (arith, length-drop (suc at) text, length-take-le len w (omega arith)))

  singleton_there : first_piece (pieces (take (len - at - 1) window)) ≡ get_or window 0 0 ∷ []
  singleton_there = grind (arith, rest, one, get_or-take)

  whole : length text ≡ len
  whole = length-take-le len w (omega arith)

  cut_there : text ≡ take (length text - (len - at - 1 + 1)) text ++ 45 ∷ take (len - at - 1) window
  cut_there =
      let before : at ≡ length text - (len - at - 1 + 1) = omega (arith, whole) in
      grind (arith, cut_text, whole, hyphen_at, rest)

  next_there : starts_block (past (is_word Variant) (after_region (pieces text))) ≡ true
      → past (is_word Variant) (after_region (pieces text)) ≡ pieces (take (len - at - 1) window)
  next_there e =
      next_is text at (omega (arith, whole)) (hyphen_at at (omega arith) ∙ s.there)
      (grind (arith, hyphen_at))
      (get_or (drop (suc at) text) 0 0) one e
      ∙ ap pieces rest

  -- so this block is found
  pub found_there : (b : Window) → b.bytes.now ≡ window → length w ≡ len + 16 →
      IsWord (Language languages) (first_piece (pieces text)) → (k : ℕ) → len ≡ k → IsFound (take k w) b
  found_there b e narrow begins k whole_len =
      grind (arith, behind_first, length-take-le, whole, cut_there, next_there, singleton_there)
