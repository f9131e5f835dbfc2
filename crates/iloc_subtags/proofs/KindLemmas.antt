-- Words of two kinds, by their bytes.
use Rattle.std.proofs.Common.{◌≡◌, ℕ, ◌+◌, ◌*◌, ◌<◌, true, eqb, get_or, [], ◌∷◌, length, map, refl, sym, ◌∙◌, ap, ap₂, arith, ◌&&◌, ◌⊎◌, inl, inr}
use Rattle.std.proofs.lemmas.Bool.Decides.{nat_tests}
use Rattle.std.specs.Int.Bits.{or_zero_r}
use Rattle.std.specs.Char.{is_ascii_alphabetic, is_ascii_alphanumeric, to_ascii_lowercase, to_ascii_uppercase}
use Rattle.std.specs.Int.RustNames.{bit_or}
use Rattle.iloc_tinystr.specs.Number.{number}
use Rattle.iloc_tinystr.specs.TinyText.{is_text_byte, is_tiny_text}
use Rattle.iloc_tinystr.proofs.Cases.{first_lower}
use Rattle.iloc_tinystr.proofs.TinyTextLemmas.{length-le-tiny}
use Rattle.iloc_subtags.specs.KindLaws.{region_fits}
use Rattle.iloc_spec_grammar.specs.Syntax.{Text, Kind, Script, Region, CurrencyType, is_word, normal, lower, upper, title, greatest, raw}
use Rattle.iloc_spec_grammar.specs.Values.{IsNormal}

no_longer : (w : Text) (n : ℕ) → is_tiny_text n w ≡ true → n < length w → ⊥
no_longer w n tiny long = omega (arith, length-le-tiny n w tiny)

-- a region of two letters has no third byte
pub third_byte : (w : Text) → IsNormal Region w → eqb (get_or (raw 8 Region w) 2 0) 0 ≡ eqb (length w) 2
unfolding is_word
third_byte [] h = let word = h.0 in cc
third_byte (a ∷ []) h = let word = h.0 in cc
third_byte (a ∷ b ∷ []) h = refl
third_byte (a ∷ b ∷ d ∷ []) h = let word = h.0 in grind (arith, nat_tests)
third_byte (a ∷ b ∷ d ∷ e ∷ w) h =
    absurd (no_longer (a ∷ b ∷ d ∷ e ∷ w) 3 (region_fits (a ∷ b ∷ d ∷ e ∷ w) h.0) (omega arith))

-- a script in lower case, by its first byte
pub script_lower : (w : Text) → IsNormal Script w → number w + 32 ≡ number (lower w)
unfolding is_word lower upper title
script_lower [] h = let word = h.0 in cc
script_lower (a ∷ w) h =
    let word = h.0 in
    let capital : to_ascii_uppercase a ≡ a = cc in
    let first : to_ascii_lowercase a ≡ a + 32 = grind (arith, nat_tests) in
    let same : map to_ascii_lowercase w ≡ w = cc in
    omega (arith, first, ap number same)

two_lower : (a b r : ℕ) → is_ascii_alphanumeric a ≡ true → is_ascii_alphanumeric b ≡ true
    → bit_or (a + 256 * (b + 256 * r)) 8224 ≡ to_ascii_lowercase a + 256 * (to_ascii_lowercase b + 256 * r)
two_lower a b r ha hb =
    first_lower a (b + 256 * r) 32 ha
    ∙ ap (λ y. to_ascii_lowercase a + 256 * y) (first_lower b r 0 hb ∙ omega (arith, or_zero_r r))

-- a region in lower case, by its first two bytes
pub region_lower : (w : Text) → IsNormal Region w → bit_or (number w) 8224 ≡ number (lower w)
unfolding is_word lower
region_lower [] h = let word = h.0 in cc
region_lower (a ∷ []) h = let word = h.0 in cc
region_lower (a ∷ b ∷ []) h =
    let word = h.0 in
    two_lower a b 0 (grind (arith, nat_tests)) (grind (arith, nat_tests))
region_lower (a ∷ b ∷ d ∷ []) h =
    let word = h.0 in
    let digit : to_ascii_lowercase d ≡ d = grind (arith, nat_tests) in
    two_lower a b (d + 256 * 0) (grind (arith, nat_tests)) (grind (arith, nat_tests))
    ∙ ap (λ y. to_ascii_lowercase a + 256 * (to_ascii_lowercase b + 256 * (y + 256 * 0))) (sym digit)
region_lower (a ∷ b ∷ d ∷ e ∷ w) h =
    absurd (no_longer (a ∷ b ∷ d ∷ e ∷ w) 3 (region_fits (a ∷ b ∷ d ∷ e ∷ w) h.0) (omega arith))

-- a small letter is 32 above its capital, which is no zero
small_letter : (b : ℕ) → is_ascii_alphabetic b ≡ true → to_ascii_lowercase b ≡ b →
    (b ≡ to_ascii_uppercase b + 32) × (is_text_byte (to_ascii_uppercase b) ≡ true)
small_letter b h e = (grind (arith, nat_tests), grind (arith, nat_tests))

-- a currency in upper case, by its bytes
pub currency_upper : (w : Text) → IsNormal CurrencyType w →
    (number w ≡ number (upper w) + 2105376) × (is_tiny_text 3 (upper w) ≡ true)
unfolding is_word lower upper
currency_upper [] h = let word = h.0 in cc
currency_upper (a ∷ []) h = let word = h.0 in cc
currency_upper (a ∷ b ∷ []) h = let word = h.0 in cc
currency_upper (a ∷ b ∷ d ∷ []) h =
    let word = h.0 in
    let first = small_letter a (grind (arith, nat_tests)) cc in
    let second = small_letter b (grind (arith, nat_tests)) cc in
    let third = small_letter d (grind (arith, nat_tests)) cc in
    (omega (arith, first.0, second.0, third.0), ap₂ ◌&&◌ first.1 (ap₂ ◌&&◌ second.1 (ap₂ ◌&&◌ third.1 refl)))
currency_upper (a ∷ b ∷ d ∷ e ∷ w) h = let word = h.0 in absurd (grind (arith, nat_tests))

-- kinds of these sizes are in lower case
pub in_lower_case : (k : Kind) (n : ℕ) → greatest 8 k ≡ n → (n ≡ 2) ⊎ (n ≡ 8) → (w : Text) →
    map to_ascii_lowercase w ≡ normal k w
unfolding lower
in_lower_case Script n e (inl h) w = absurd (omega arith)
in_lower_case Script n e (inr h) w = absurd (omega arith)
in_lower_case Region n e (inl h) w = absurd (omega arith)
in_lower_case Region n e (inr h) w = absurd (omega arith)
in_lower_case _ n e h w = refl
