-- What a word feeds a hasher.
use Rattle.std.proofs.Common.{◌≡◌, ℕ, ◌-◌, ◌≤◌, Bool, true, [], ◌∷◌, ◌++◌, length, replicate, refl, ap, arith, if◌then◌else◌}
use Rattle.std.specs.Prelude.{nat_lt, nat_le}
use Rattle.std.specs.List.{list_all}
use Rattle.std.specs.Hash.{HashWrites, u8}
use Rattle.std.proofs.lemmas.Bool.{and_parts}
use Rattle.std.proofs.lemmas.Bool.Decides.{nat_tests}
use Rattle.iloc_tinystr.specs.TinyText.{is_text_byte, is_tiny_text}
use Rattle.iloc_spec_grammar.specs.Syntax.{Text, Kind, IsWord, greatest}
use Rattle.iloc_spec_parts.specs.Hashes.{is_short_text, word_fed}
use Rattle.iloc_subtags.proofs.PieceLemmas.{size-le}

no_zero : (w : Text) → list_all is_text_byte w ≡ true → list_all (λ b. nat_lt 0 b) w ≡ true
no_zero [] h = refl
no_zero (b ∷ w) h = grind (arith, nat_tests, no_zero w)

tiny_is_short : (n : ℕ) (w : Text) → n ≤ 8 → is_tiny_text n w ≡ true → is_short_text w ≡ true
tiny_is_short n w few h =
    let parts = and_parts (nat_le (length w) n) (list_all is_text_byte w) h in
    let bytes : list_all (λ b. nat_lt 0 b) w ≡ true = no_zero w parts.1 in
    grind (arith, nat_tests)

abbrev as_fed : Text → Bool → HashWrites
as_fed w b = if b then (w ++ replicate (8 - length w) 0) ∷ [] else u8 255 ++ (w ∷ [])

-- a word feeds its text, followed by zeros
pub word_feeds : (k : Kind) (n : ℕ) (w : Text) → greatest 8 k ≡ n →
    ((text : Text) → IsWord k text → is_tiny_text n text ≡ true) → IsWord k w →
    word_fed w ≡ (w ++ replicate (8 - length w) 0) ∷ []
word_feeds k n w size fits h = ap (as_fed w) (tiny_is_short n w (size-le k n size) (fits w h))
