-- Raw forms: as long as the longest word, and read back. The tables keep to what is asked of tables.
use Rattle.std.proofs.Common.{◌≡◌, ℕ, zero, suc, ◌+◌, ◌-◌, ◌≤◌, Bool, true, false, ◌==◌, [], ◌∷◌, ◌++◌, length, replicate, refl, sym, ap, ◌∙◌, arith, append_assoc, length-append}
use Rattle.std.specs.List.{list_any}
use Rattle.std.specs.Char.{is_ascii_alphanumeric}
use Rattle.std.proofs.lemmas.Bool.{and_parts, or_parts}
use Rattle.std.proofs.lemmas.Bool.Decides.{nat_tests}
use Rattle.std.proofs.lemmas.List.{length-replicate, replicate-append-replicate}
use Rattle.iloc_spec_grammar.specs.Syntax.{Text, Kind, Language, AreLengths, two_or_three, languages, is_word, IsWord, EndsAt, greatest, Bounds, raw, wide_raw, narrow_raw, before_zero}
use Rattle.iloc_spec_grammar.proofs.WordsLaws.{word_letters_or_digits}
use Rattle.iloc_spec_grammar.proofs.General.{none_passes}

-- the tables

pub narrow_table : AreLengths two_or_three
narrow_table = grind arith

pub languages_table : AreLengths languages
unfolding languages
languages_table = grind arith

pub narrow_in_wide : (n : ℕ) → two_or_three n ≡ true → languages n ≡ true
unfolding languages
narrow_in_wide n h = grind (arith, nat_tests)

-- no table has a length that the library's lacks
pub table_in_ours : {T : ℕ → Bool} → AreLengths T → (n : ℕ) → T n ≡ true → languages n ≡ true
unfolding languages
table_in_ours table n h = grind (arith, nat_tests)

pub wide_ends : EndsAt 8 languages
wide_ends = languages_table.most

pub narrow_ends : EndsAt 3 two_or_three
narrow_ends n h = grind (arith, nat_tests)

-- no word is longer than the greatest

at_most_greatest : (n : ℕ) (k : Kind) (w : Text) → Bounds n k → IsWord k w → length w ≤ greatest n k
unfolding is_word
at_most_greatest n (Language T) w b h = b (length w) (and_parts _ _ h).0
at_most_greatest n _ w b h = grind (arith, nat_tests)

pub length-raw : (n : ℕ) (k : Kind) (w : Text) → Bounds n k → IsWord k w → length (raw n k w) ≡ greatest n k
length-raw n k w b h = grind (arith, at_most_greatest, length-replicate, length-append)

-- no byte of a word is zero

abbrev is_zero : ℕ → Bool
is_zero b = b == 0

either_no_zero : (c : ℕ) → is_ascii_alphanumeric c ≡ true → is_zero c ≡ false
either_no_zero c h = grind (arith, nat_tests)

-- the word is read back

before_zeros : (n : ℕ) → before_zero (replicate n 0) ≡ []
before_zeros zero = refl
before_zeros (suc n) = refl

before_padding : (w : Text) (n : ℕ) → list_any is_zero w ≡ false → before_zero (w ++ replicate n 0) ≡ w
before_padding [] n h = before_zeros n
before_padding (c ∷ w) n h = grind (arith, before_padding w n (or_parts (is_zero c) (list_any is_zero w) h).1)

pub before_zero-raw : (n : ℕ) (k : Kind) (w : Text) → IsWord k w → before_zero (raw n k w) ≡ w
before_zero-raw n k w h = search (before_padding, none_passes, either_no_zero, word_letters_or_digits)

pub raw_injective : (n : ℕ) (k : Kind) (v w : Text) → IsWord k v → IsWord k w → raw n k v ≡ raw n k w →
    v ≡ w
raw_injective n k v w g h e = sym (before_zero-raw n k v g) ∙ ap before_zero e ∙ before_zero-raw n k w h

-- a raw form over the wide table is one over the narrow table, and five zeros

zeros : (m n : ℕ) → replicate {A = ℕ} (m + n) 0 ≡ replicate m 0 ++ replicate n 0
zeros m n = sym (replicate-append-replicate m n 0)

pub wide-narrow_raw : (w : Text) → IsWord (Language two_or_three) w →
    wide_raw (Language languages) w ≡ narrow_raw (Language two_or_three) w ++ replicate 5 0
wide-narrow_raw w h =
    let m = at_most_greatest 3 (Language two_or_three) w narrow_ends h in
    let n : 8 - length w ≡ (3 - length w) + 5 = omega arith in
    grind (arith, zeros, append_assoc)

-- the laws of raw forms
pub ruleset raw_laws = (length-raw, before_zero-raw, raw_injective, wide-narrow_raw)
