-- Whether bytes that come first are all of a class.
use Rattle.std.proofs.Common.{◌≡◌, ℕ, zero, suc, ◌<◌, ◌≤◌, ◌==◌, Bool, true, false, ◌&&◌, nat_le, [], ◌∷◌, length, get_or, take, refl, ap, ◌∙◌, arith}
use Rattle.std.specs.List.{list_all}
use Rattle.std.specs.Int.{is_in_range}
use Rattle.std.specs.Char.{is_ascii_alphabetic, is_ascii_alphanumeric}
use Rattle.std.proofs.lemmas.Bool.{cases_lt}
use Rattle.std.proofs.lemmas.List.{length-take-le}
use Rattle.iloc_spec_grammar.specs.Syntax.{Text, Attribute, Language, UnicodeKey, is_word, letters, letters_or_digits, languages}
use Rattle.iloc_pieces.specs.Run.{IsRun}

pub all_pass : (p : ℕ → Bool) (n : ℕ) (w : Text) → n ≤ length w →
    ((i : ℕ) → i < n → p (get_or w i 0) ≡ true) → list_all p (take n w) ≡ true
all_pass p zero w l h = refl
all_pass p (suc n) [] l h = absurd (omega arith)
all_pass p (suc n) (b ∷ w) l h = ap (λ a. a && list_all p (take n w)) (h 0 (omega arith))
    ∙ all_pass p n w (omega arith) (λ i less. h (suc i) (omega arith))

pub and-true : (b : Bool) → (b && true) ≡ b
and-true true = refl
and-true false = refl

pub and-false : (b : Bool) → (b && false) ≡ false
and-false true = refl
and-false false = refl

one_fails : (p : ℕ → Bool) (k n : ℕ) (w : Text) → k < n → n ≤ length w → p (get_or w k 0) ≡ false →
    list_all p (take n w) ≡ false
one_fails p k zero w l m e = absurd (omega arith)
one_fails p k (suc n) [] l m e = absurd (omega arith)
one_fails p zero (suc n) (b ∷ w) l m e = ap (λ a. a && list_all p (take n w)) e
one_fails p (suc k) (suc n) (b ∷ w) l m e = grind (arith, and-false, one_fails p k n w)

-- n bytes are all of the class where no fewer come first
pub run_tests : (p : ℕ → Bool) (w : Text) (k n : ℕ) → 16 ≤ length w → n ≤ 16 → IsRun p w k →
    nat_le n k ≡ list_all p (take n w)
run_tests p w k n wide few r = grind (arith, cases_lt, one_fails, all_pass)

module _ (w : Text) (n : ℕ) (wide : 16 ≤ length w) (few : n ≤ 16) where
  long : length (take n w) ≡ n
  long = length-take-le n w (omega arith)

  pub language_is : is_word (Language languages) (take n w) ≡ languages n && letters (take n w)
  unfolding is_word
  language_is = ap (λ m. languages m && letters (take n w)) long

  pub key_is : is_word UnicodeKey (take n w)
      ≡ (n == 2)
      && (is_ascii_alphanumeric (get_or (take n w) 0 0) && is_ascii_alphabetic (get_or (take n w) 1 0))
  unfolding is_word
  key_is = grind (arith, long)

  pub attribute_is : is_word Attribute (take n w) ≡ is_in_range 3 8 n && letters_or_digits (take n w)
  unfolding is_word
  attribute_is = grind (arith, long)
