-- Of fewer than 2 ^ 40 texts, some variant is none: there are more words of eight letters and digits.
use Rattle.std.proofs.Common.{◌≡◌, ◌≢◌, inl, inr, ℕ, zero, suc, ◌+◌, ◌*◌, ◌<◌, ◌≤◌, ◌^◌, true, false, ◌==◌, List, [], ◌∷◌, length, refl, sym, ap, ◌∙◌, arith, if◌then◌else◌, nat_lt}
use Rattle.std.specs.List.{AllByRecursion, list_any, list_all}
use Rattle.std.specs.Char.{is_ascii_alphanumeric, to_ascii_lowercase}
use Rattle.std.specs.Ordering.{eq_by_cmp}
use Rattle.std.proofs.lemmas.Bool.{cases_Bool, eqb-true, false_from_ne_true, cases_lt}
use Rattle.std.proofs.lemmas.Bool.Decides.{nat_tests}
use Rattle.iloc_spec_grammar.specs.Syntax.{Text, Variant, is_word, lower, word_cmp, IsHyphenFree}
use Rattle.iloc_spec_grammar.proofs.MapLaws.{same_is}

-- ---- letters

-- the letter or digit of this number, in lower case
abbrev pub letter : ℕ → ℕ
letter k = if nat_lt k 10 then 48 + k else 87 + k

letters_apart : (j k : ℕ) → j < k → letter j ≢ letter k
letters_apart j k h e = grind (arith, nat_tests)

-- such letters and digits are in lower case, and no hyphens
pub record IsLetter (c : ℕ) : Type 0 where
  pub letter : is_ascii_alphanumeric c ≡ true
  pub low : to_ascii_lowercase c ≡ c
  pub no_hyphen : (c == 45) ≡ false

letter_is : (k : ℕ) → k < 32 → IsLetter (letter k)
letter_is k h = grind arith

-- ---- texts that begin with a byte, and others

-- what follows the byte in the texts that begin with it
abbrev tails : ℕ → List Text → List Text
tails c [] = []
tails c ([] ∷ ts) = tails c ts
tails c ((d ∷ t) ∷ ts) = if d == c then t ∷ tails c ts else tails c ts

-- the texts that do not
abbrev others : ℕ → List Text → List Text
others c [] = []
others c ([] ∷ ts) = others c ts
others c ((d ∷ t) ∷ ts) = if d == c then others c ts else (d ∷ t) ∷ others c ts

fewer : (c : ℕ) (ts : List Text) → length (tails c ts) + length (others c ts) ≤ length ts
fewer c [] = omega arith
fewer c ([] ∷ ts) = let h = fewer c ts in omega arith
fewer c ((d ∷ t) ∷ ts) = grind (arith, cases_Bool, fewer c ts)

abbrev IsNone : Text → List Text → Type 0
IsNone w ts = AllByRecursion (λ t. t ≢ w) ts

none_by_tails : (c : ℕ) (w : Text) (ts : List Text) → IsNone w (tails c ts) → IsNone (c ∷ w) ts
none_by_tails c w [] h = tt
none_by_tails c w ([] ∷ ts) h = (λ e. cc, none_by_tails c w ts h)
none_by_tails c w ((d ∷ t) ∷ ts) h = elim (cases_Bool (d == c)) [
  | inl e ↦ let k = rw e at h in ((λ f. k.0 (cc)), none_by_tails c w ts k.1)
  | inr e ↦ ((λ f. let s : d ≡ c = cc in absurd (grind (arith, nat_tests))), none_by_tails c w ts (rw e at h))
]

none_by_others : (c b : ℕ) (w : Text) (ts : List Text) → b ≢ c → IsNone (b ∷ w) (others c ts) →
    IsNone (b ∷ w) ts
none_by_others c b w [] n h = tt
none_by_others c b w ([] ∷ ts) n h = (λ e. cc, none_by_others c b w ts n h)
none_by_others c b w ((d ∷ t) ∷ ts) n h = elim (cases_Bool (d == c)) [
  | inl e ↦ ((λ f. let s : d ≡ b = cc in n (sym s ∙ eqb-true d c e)), none_by_others c b w ts n (rw e at h))
  | inr e ↦ let k = rw e at h in (k.0, none_by_others c b w ts n k.1)
]

-- ---- a word that is none of the texts

-- so many letters and digits, none of the texts
pub record IsNewWord (n : ℕ) (ts : List Text) (w : Text) : Type 0 where
  pub long : length w ≡ n
  pub letters : AllByRecursion IsLetter w
  pub none : IsNone w ts

abbrev HasNew : ℕ → ℕ → Type 0
HasNew n most = (ts : List Text) → length ts < most → (w : Text) × IsNewWord n ts w

-- one that begins with one of the first letters
record IsNewAmong (n m : ℕ) (ts : List Text) : Type 0 where
  place : ℕ
  less : place < m
  rest : Text
  long : length rest ≡ n
  letters : AllByRecursion IsLetter rest
  none : IsNone (letter place ∷ rest) ts

pick : (n most m : ℕ) → HasNew n most → (ts : List Text) → length ts < m * most → IsNewAmong n m ts
pick n most zero new ts h = absurd (omega arith)
pick n most (suc m) new ts h = elim (cases_lt (length (tails (letter m) ts)) most) [
  | inl less ↦ let w = new (tails (letter m) ts) less in record {
    place = m;
    less = omega arith;
    rest = w.0;
    long = w.1.long;
    letters = w.1.letters;
    none = none_by_tails (letter m) w.0 ts w.1.none;
  }
  | inr more ↦
      let few = fewer (letter m) ts in
      grind (arith, pick n most m new (others (letter m) ts) (omega arith), none_by_others, letters_apart)
]

pub power : ℕ → ℕ
power zero = 1
power (suc n) = 32 * power n

new_word : (n : ℕ) → HasNew n (power n)
unfolding power
new_word zero [] h = grind arith
new_word zero (t ∷ ts) h = absurd (omega arith)
new_word (suc n) ts h = let w = pick n (power n) 32 (new_word n) ts h in grind (arith, letter_is)

-- ---- so it is a variant

all_letters : (w : Text) → AllByRecursion IsLetter w → list_all is_ascii_alphanumeric w ≡ true
all_letters [] h = refl
all_letters (c ∷ w) h = rw (h.0.letter, all_letters w h.1) refl

lower_is : (w : Text) → AllByRecursion IsLetter w → lower w ≡ w
unfolding lower
lower_is [] h = refl
lower_is (c ∷ w) h = rw (h.0.low, lower_is w h.1) refl

free_is : (w : Text) → AllByRecursion IsLetter w → IsHyphenFree w
free_is [] h = refl
free_is (c ∷ w) h = rw (h.0.no_hyphen, free_is w h.1) refl

none_is : (w : Text) (ts : List Text) → IsNone w ts → list_any (eq_by_cmp word_cmp w) ts ≡ false
none_is w [] h = refl
none_is w (t ∷ ts) h =
    let no : eq_by_cmp word_cmp w t ≡ false = false_from_ne_true _ (λ e. h.0 (sym (same_is w t e))) in
    rw (no, none_is w ts h.1) refl

variant_is : (w : Text) → length w ≡ 8 → AllByRecursion IsLetter w → is_word Variant w ≡ true
unfolding is_word
variant_is w e h = rw (e, all_letters w h) refl

-- a variant in lower case that is none of these
pub record IsNewVariant (vs : List Text) (v : Text) : Type 0 where
  pub long : length v ≡ 8
  pub word : is_word Variant v ≡ true
  pub low : lower v ≡ v
  pub free : IsHyphenFree v
  pub none : list_any (eq_by_cmp word_cmp v) vs ≡ false

pub new_variant : (vs : List Text) → length vs < 2 ^ 40 → (v : Text) × IsNewVariant vs v
unfolding power
new_variant vs h = let w = new_word 8 vs h in grind (arith, variant_is, lower_is, free_is, none_is)
