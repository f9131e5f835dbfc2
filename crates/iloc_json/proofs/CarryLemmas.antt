-- One word more, a bad one, or no memory for it.
use Rattle.std.proofs.Common.{◌≡◌, ◌≢◌, ℕ, ◌+◌, ◌%◌, ◌≤◌, List, [], ◌∷◌, ◌++◌, length, take, ◌-◌, drop, get_or, refl, sym, ap, ◌∙◌, arith, append_assoc, append-nil, length-append, replicate}
use Rattle.std.specs.List.{flat_map, AllByRecursion}
use Rattle.iloc_spec_grammar.specs.Syntax.{Text, Language, languages, two_or_three, narrow_raw, wide_raw}
use Rattle.iloc_spec_grammar.specs.Values.{IsNormal}
use Rattle.iloc_spec_grammar.proofs.RawLaws.{wide-narrow_raw}
use Rattle.iloc_json.specs.declared.carry_error.CarryError.TheVariants.{Word, OutOfMemory}
use Rattle.iloc_json.specs.Carrying.{BeginsWith, CannotCarry, SoFar}
use Rattle.std.proofs.Math.Seq.{take-length}

abbrev pub first_three : Text → Text
first_three xs = get_or xs 0 0 ∷ get_or xs 1 0 ∷ get_or xs 2 0 ∷ []

three_and_rest : (xs : Text) → 3 ≤ length xs → xs ≡ first_three xs ++ drop 3 xs
three_and_rest [] h = absurd (omega (arith, h))
three_and_rest (a ∷ []) h = absurd (omega (arith, h))
three_and_rest (a ∷ b ∷ []) h = absurd (omega (arith, h))
three_and_rest (a ∷ b ∷ d ∷ xs) h = refl

length-three : (xs : Text) → 3 ≤ length xs → length xs ≡ 3 + length (drop 3 xs)
length-three xs h = ap length (three_and_rest xs h) ∙ length-append (first_three xs) (drop 3 xs)

-- what is left after three bytes
pub dropped : (xs : Text) → 3 ≤ length xs → take (length xs - 3) (drop 3 xs) ≡ drop 3 xs
dropped xs h = ap (λ n. take n (drop 3 xs))
    (let l = length-three xs h in let e : length xs - 3 ≡ length (drop 3 xs) = omega arith in e)
    ∙ take-length (drop 3 xs)

-- the next three bytes are bad
pub refused : (row rest out : Text) (count : ℕ) → SoFar row rest out count → length row % 3 ≡ 0 →
    3 ≤ length rest →
    ((w : Text) → IsNormal (Language two_or_three) w →
    narrow_raw (Language two_or_three) w ≢ first_three rest) →
    CannotCarry row (Word count)
refused row rest out count s whole long bad = (
  whole,
  s.words,
  first_three rest,
  drop 3 rest,
  (s.begins.0, s.begins.1, s.begins.2 ∙ ap (λ r. s.begins.0 ++ r) (three_and_rest rest long)),
  s.counted,
  (refl, bad),
)

all_then : (ws : List Text) (w : Text) → AllByRecursion (IsNormal (Language two_or_three)) ws →
    IsNormal (Language two_or_three) w → AllByRecursion (IsNormal (Language two_or_three)) (ws ++ w ∷ [])
all_then [] w a h = (h, tt)
all_then (v ∷ ws) w a h = (a.0, all_then ws w a.1 h)

map_then : (f : Text → Text) (ws : List Text) (w : Text) →
    flat_map f (ws ++ w ∷ []) ≡ flat_map f ws ++ f w
map_then f [] w = append-nil (f w)
map_then f (v ∷ ws) w = ap (λ r. f v ++ r) (map_then f ws w) ∙ sym (append_assoc (f v) (flat_map f ws) (f w))

-- the row begins with one word more
begins_then : (row rest : Text) (ws : List Text) (w more : Text) → BeginsWith row ws rest →
    3 ≤ length rest → IsNormal (Language two_or_three) w →
    narrow_raw (Language two_or_three) w ≡ first_three rest → more ≡ drop 3 rest →
    BeginsWith row (ws ++ w ∷ []) more
begins_then row rest ws w more b long normal is more_is = (
  b.0 ++ first_three rest,
  record {
    normal = all_then ws w b.1.normal normal;
    bytes = (λ i. b.1.bytes i ++ sym is i) ∙ sym (map_then (narrow_raw (Language two_or_three)) ws w);
  },
  b.2 ∙ ap (λ r. b.0 ++ r) (three_and_rest rest long ∙ ap (λ r. first_three rest ++ r) (sym more_is))
      ∙ sym (append_assoc b.0 (first_three rest) more),
)

-- a new raw form has eight bytes
new_form : (w rest : Text) → IsNormal (Language two_or_three) w →
    narrow_raw (Language two_or_three) w ≡ first_three rest → length (wide_raw (Language languages) w) ≡ 8
new_form w rest normal is = ap length (wide-narrow_raw w normal.0 ∙ ap (λ l. l ++ replicate 5 0) is)

pub one_more : (row rest out : Text) (count : ℕ) (w more new : Text) → SoFar row rest out count →
    3 ≤ length rest → IsNormal (Language two_or_three) w →
    narrow_raw (Language two_or_three) w ≡ first_three rest → more ≡ drop 3 rest →
    new ≡ out ++ wide_raw (Language languages) w → SoFar row more new (count + 1)
one_more row rest out count w more new s long normal is more_is new_is = record {
  words = s.words ++ w ∷ [];
  begins = begins_then row rest s.words w more s.begins long normal is more_is;
  new = new_is ∙ ap (λ o. o ++ wide_raw (Language languages) w) s.new
      ∙ sym (map_then (wide_raw (Language languages)) s.words w);
  counted = length-append s.words (w ∷ []) ∙ ap (λ n. n + 1) s.counted;
  whole = let l = length-three rest long in
      let m = s.whole in let e : length more ≡ length (drop 3 rest) = ap length more_is in omega arith;
  passed = let l = length-three rest long in
      let e : length more ≡ length (drop 3 rest) = ap length more_is in let r = s.passed in omega arith;
  sized = let l = ap length new_is ∙ length-append out (wide_raw (Language languages) w) in
      let so = s.sized in let eight = new_form w rest normal is in omega (arith, l, so, eight);
}

-- words that the row begins with, one of them at least, leave a first one
first_word : (row : Text) (ws : List Text) (after : Text) → BeginsWith row ws after → 1 ≤ length ws →
    length row % 3 ≡ 0 → CannotCarry row OutOfMemory
first_word row [] after b h whole = absurd (omega (arith, h))
first_word row (w ∷ ws) after b h whole = (
  whole,
  w,
  flat_map (narrow_raw (Language two_or_three)) ws ++ after,
  (
    narrow_raw (Language two_or_three) w,
    record { normal = (b.1.normal.0, tt); bytes = sym (append-nil (narrow_raw (Language two_or_three) w)) },
    b.2 ∙ ap (λ r. r ++ after) b.1.bytes
        ∙ append_assoc (narrow_raw (Language two_or_three) w)
        (flat_map (narrow_raw (Language two_or_three)) ws) after,
  ),
)

-- the next word was read, and there is no memory for it
pub no_memory : (row rest out : Text) (count : ℕ) (w : Text) → SoFar row rest out count →
    length row % 3 ≡ 0 → 3 ≤ length rest → IsNormal (Language two_or_three) w →
    narrow_raw (Language two_or_three) w ≡ first_three rest → CannotCarry row OutOfMemory
no_memory row rest out count w s whole long normal is = first_word row (s.words ++ w ∷ []) (drop 3 rest)
    (begins_then row rest s.words w (drop 3 rest) s.begins long normal is refl)
    (let l = length-append s.words (w ∷ []) in omega arith) whole
