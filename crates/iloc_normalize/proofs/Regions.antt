-- The region with which a front ends.
use Rattle.std.proofs.Common.{◌≡◌, ◌≢◌, ◌⊎◌, inl, inr, ℕ, zero, suc, ◌+◌, ◌-◌, ◌<◌, ◌≤◌, ◌==◌, Bool, true, false, [], ◌∷◌, ◌++◌, length, get_or, take, drop, Option, Some, None, refl, sym, ap, ◌∙◌, subst, arith, append-nil, length-append, true≢false}
use Rattle.std.specs.Prelude.{IfSome, option_to_list}
use Rattle.std.specs.Char.{is_ascii_alphabetic, is_ascii_digit}
use Rattle.std.specs.List.{list_all}
use Rattle.std.proofs.Math.Seq.{drop-append_seam}
use Rattle.std.proofs.lemmas.Bool.{and_parts}
use Rattle.std.proofs.lemmas.Bool.Decides.{nat_tests}
use Rattle.std.proofs.lemmas.List.{drop-take, get_or-drop, get_or-take, length-take-le}
use Rattle.iloc_spec_grammar.specs.Syntax.{Text, SpelledIdentifier, HasWords, IsWord, Language, Region, Script, is_word, join, languages}
use Rattle.iloc_spec_grammar.proofs.PartTexts.{join-append}
use Rattle.iloc_spec_grammar.proofs.RawLaws.{languages_table}
use Rattle.iloc_spec_grammar.proofs.WordsLaws.{length-language, length-region, length-script}
use Rattle.iloc_outline.specs.Parts.{front_pieces}
use Rattle.iloc_normalize.specs.Data.{IsRegionStart}

-- ---- bytes of a piece

all_at : (f : ℕ → Bool) (p : Text) (k : ℕ) → list_all f p ≡ true → k < length p → f (get_or p k 0) ≡ true
all_at f [] k h l = absurd (omega arith)
all_at f (c ∷ p) zero h l = (and_parts (f c) (list_all f p) h).0
all_at f (c ∷ p) (suc k) h l = all_at f p k (and_parts (f c) (list_all f p) h).1 (omega arith)

-- a letter is no hyphen and no digit
no_hyphen : (c : ℕ) → is_ascii_alphabetic c ≡ true → c ≢ 45
no_hyphen c h e = grind (arith, nat_tests)

no_digit : (c : ℕ) → is_ascii_alphabetic c ≡ true → is_ascii_digit c ≡ false
no_digit c h = grind (arith, nat_tests)

digit_no_hyphen : (c : ℕ) → is_ascii_digit c ≡ true → c ≢ 45
digit_no_hyphen c h e = grind (arith, nat_tests)

language_letters : (p : Text) → IsWord (Language languages) p → list_all is_ascii_alphabetic p ≡ true
unfolding is_word
language_letters p h = (and_parts (languages (length p)) (list_all is_ascii_alphabetic p) h).1

script_letters : (p : Text) → IsWord Script p → list_all is_ascii_alphabetic p ≡ true
unfolding is_word
script_letters p h = (and_parts (length p == 4) (list_all is_ascii_alphabetic p) h).1

region_bytes : (p : Text) → IsWord Region p → ((length p ≡ 2) × (list_all is_ascii_alphabetic p ≡ true))
    ⊎ ((length p ≡ 3) × (list_all is_ascii_digit p ≡ true))
unfolding is_word
region_bytes p h = grind arith

-- bytes behind others
behind_at : (a b : Text) (k : ℕ) → get_or (a ++ b) (length a + k) 0 ≡ get_or b k 0
behind_at a b k = sym (get_or-drop (length a) (a ++ b) k 0) ∙ ap (λ t. get_or t k 0) (drop-append_seam a b)

-- ---- fronts without a region, and with one

record NoRegion (t : Text) : Type 0 where
  hyphen : 3 ≤ length t → get_or t (length t - 3) 0 ≢ 45
  digit : is_ascii_digit (get_or t (length t - 1) 0) ≡ false

-- letters end it, three at least
letters_end : (a b : Text) → list_all is_ascii_alphabetic b ≡ true → 2 ≤ length b → (3 ≤ length (a ++ b)
    → 3 ≤ length b) → NoRegion (a ++ b)
letters_end a b h some long = record {
  hyphen = λ l. let n = long l in
      let at : length (a ++ b) - 3 ≡ length a + (length b - 3) = (let e =
      length-append a b in omega arith) in
      grind (arith, no_hyphen, get_or, all_at, behind_at);
  digit = let at : length (a ++ b) - 1 ≡ length a + (length b - 1) = (let e =
      length-append a b in omega arith) in
      grind (arith, get_or, behind_at, no_digit, all_at);
}

no_region : (l : Text) (s : Option Text) → IsWord (Language languages) l → IfSome s (IsWord Script)
    → NoRegion (join (l ∷ option_to_list s))
unfolding join
no_region l None h g =
    let n = languages_table.least _ (length-language languages l h) in
    letters_end [] l (language_letters l h) n (λ m. m)
no_region l (Some s) h g =
    let n = length-script s g in
    subst NoRegion (append_hyphen l s) (letters_end (l ++ 45 ∷ []) s (script_letters s g) (omega arith)
    (λ m. omega arith))
  where
    append_hyphen : (l s : Text) → (l ++ 45 ∷ []) ++ s ≡ l ++ 45 ∷ s
    append_hyphen [] s = refl
    append_hyphen (c ∷ l) s = ap (λ t. c ∷ t) (append_hyphen l s)

record WithRegion (t r : Text) : Type 0 where
  long : length r + 1 ≤ length t
  bytes : drop (length t - length r) t ≡ r
  hyphen : get_or t (length t - length r - 1) 0 ≡ 45

region_end : (a r : Text) → WithRegion (a ++ 45 ∷ r) r
region_end a r =
    let e = length-append a (45 ∷ r) in
    let at : length (a ++ 45 ∷ r) - length r - 1 ≡ length a + 0 = omega arith in
    let from : length (a ++ 45 ∷ r) - length r ≡ suc (length a) = omega arith in
    record {
      long = omega arith;
      bytes = ap (λ k. drop k (a ++ 45 ∷ r)) from ∙ past a;
      hyphen = ap (λ k. get_or (a ++ 45 ∷ r) k 0) at ∙ behind_at a (45 ∷ r) 0;
    }
  where
    past : (a : Text) → drop (suc (length a)) (a ++ 45 ∷ r) ≡ r
    past [] = refl
    past (c ∷ a) = past a

with_region : (l r : Text) (s : Option Text)
    → WithRegion (join (l ∷ (option_to_list s ++ option_to_list (Some r)))) r
with_region l r s = grind (arith, join-append, append-nil, region_end)

-- ---- the bytes of a window

module _ (w : Text) (end : ℕ) (inside : end ≤ length w) (i : SpelledIdentifier) (words : HasWords languages i)
    (is : take end w ≡ join (front_pieces i)) where
  size : length (take end w) ≡ end
  size = length-take-le end w inside

  byte : (k : ℕ) → k < end → get_or (take end w) k 0 ≡ get_or w k 0
  byte k l = get_or-take end w k 0 l

  none : i.region ≡ None → NoRegion (take end w)
  none e = grind (arith, append-nil, no_region)

  some : (r : Text) → i.region ≡ Some r → WithRegion (take end w) r
  some r e = grind (arith, with_region)

  is_region : (r : Text) → i.region ≡ Some r → IsWord Region r
  is_region r e = subst (λ (o : Option Text). IfSome o (IsWord Region)) e words.region

  -- no region
  absent : (at : ℕ) → at ≡ end → i.region ≡ None → IsRegionStart w end i.region at
  absent at e n = subst (λ (o : Option Text). IsRegionStart w end o at) (sym n) e

  -- this region
  present : (r : Text) → i.region ≡ Some r → (at : ℕ) → at + length r ≡ end
      → IsRegionStart w end i.region at
  present r n at e = grind (arith, some, size, drop-take)

  -- two letters stand behind a hyphen, three digits behind a digit at that place
  two_hyphen : (r : Text) → i.region ≡ Some r → length r ≡ 2 → get_or w (end - 3) 0 ≡ 45
  two_hyphen r n two = grind (arith, some, size, byte, get_or)

  digit_there : (r : Text) → i.region ≡ Some r → length r ≡ 3 → list_all is_ascii_digit r ≡ true
      → (k : ℕ) → k < 3
      → is_ascii_digit (get_or w (end - 3 + k) 0) ≡ true
  digit_there r n three digits k l =
      let h = some r n in
      let m = h.long in
      let s = size in
      let from : length (take end w) - length r ≡ end - 3 = omega arith in
      ap is_ascii_digit (sym (byte (end - 3 + k) (omega arith))
      ∙ sym (get_or-drop (end - 3) (take end w) k 0)
      ∙ ap (λ (j : ℕ). get_or (drop j (take end w)) k 0) (sym from) ∙ ap (λ t. get_or t k 0) h.bytes)
      ∙ all_at is_ascii_digit r k digits (omega arith)

  -- by what is found there
  pub too_short : end < 3 → IsRegionStart w end i.region end
  too_short few = by i.region refl
    where
      by : (o : Option Text) → i.region ≡ o → IsRegionStart w end i.region end
      by None n = absent end refl n
      by (Some r) n =
          let h = some r n in let l = h.long in let m = length-region r (is_region r n) in let s =
          size in absurd (omega arith)

  pub by_hyphen : 3 ≤ end → get_or w (end - 3) 0 ≡ 45 → IsRegionStart w end i.region (end - 2)
  by_hyphen least e = by i.region refl
    where
      by : (o : Option Text) → i.region ≡ o → IsRegionStart w end i.region (end - 2)
      by None n =
          let s = size in
          let at : length (take end w) - 3 ≡ end - 3 = omega arith in
          absurd ((none n).hyphen (omega arith) (ap (λ k. get_or (take end w) k 0) at
          ∙ byte (end - 3) (omega arith) ∙ e))
      by (Some r) n = elim (region_bytes r (is_region r n)) [
        | inl (two, letters) ↦ present r n (end - 2) (omega arith)
        | inr (three, digits) ↦
            let at : end - 3 + 0 ≡ end - 3 = omega arith in
            absurd (digit_no_hyphen (get_or w (end - 3 + 0) 0) (digit_there r n three digits 0
            (omega arith))
            (ap (λ k. get_or w k 0) at ∙ e))
      ]

  pub by_digit : 3 ≤ end → get_or w (end - 3) 0 ≢ 45 → is_ascii_digit (get_or w (end - 1) 0) ≡ true
      → IsRegionStart w end i.region (end - 3)
  by_digit least other e = by i.region refl
    where
      by : (o : Option Text) → i.region ≡ o → IsRegionStart w end i.region (end - 3)
      by None n =
          let s = size in
          let at : length (take end w) - 1 ≡ end - 1 = omega arith in
          absurd (true≢false (sym e ∙ ap is_ascii_digit (sym (byte (end - 1) (omega arith))
          ∙ ap (λ k. get_or (take end w) k 0) (sym at))
          ∙ (none n).digit))
      by (Some r) n = elim (region_bytes r (is_region r n)) [
        | inl (two, letters) ↦ absurd (other (two_hyphen r n two))
        | inr (three, digits) ↦ present r n (end - 3) (omega arith)
      ]

  pub by_none : 3 ≤ end → get_or w (end - 3) 0 ≢ 45 → is_ascii_digit (get_or w (end - 1) 0) ≡ false
      → IsRegionStart w end i.region end
  by_none least other e = by i.region refl
    where
      by : (o : Option Text) → i.region ≡ o → IsRegionStart w end i.region end
      by None n = absent end refl n
      by (Some r) n = elim (region_bytes r (is_region r n)) [
        | inl (two, letters) ↦ absurd (other (two_hyphen r n two))
        | inr (three, digits) ↦
            let at : end - 3 + 2 ≡ end - 1 = omega arith in
            absurd (true≢false (sym (digit_there r n three digits 2 (omega arith))
            ∙ ap (λ k. is_ascii_digit (get_or w k 0)) at ∙ e))
      ]
