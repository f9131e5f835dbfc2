-- The hash of a text, and that it is a sink's.
use Rattle.std.specs.Prelude.{◌≡◌, ℕ, ◌*◌, ◌%◌, ◌^◌, ◌++◌, fold, bit_xor}
use Rattle.std.proofs.Common.{sym, ap, ◌∙◌}
use Rattle.std.proofs.lemmas.List.Sums.{fold-append}
use Rattle.iloc_spec_grammar.specs.Syntax.{Text}

-- FNV-1a, one byte further: http://www.isthe.com/chongo/tech/comp/fnv
abbrev pub hash_step : ℕ → ℕ → ℕ
hash_step state byte = (bit_xor state byte * 1099511628211) % 2 ^ 64

-- FNV-1a of bytes, in 64 bits
abbrev pub hash_of : Text → ℕ
hash_of bytes = fold hash_step 14695981039346656037 bytes

-- two texts, one after the other, are hashed as one
pub hashed_both : (a b c : ℕ) (s t : Text) → b ≡ fold hash_step a s → c ≡ fold hash_step b t
    → c ≡ fold hash_step a (s ++ t)
hashed_both a b c s t p q = q ∙ ap (λ x. fold hash_step x t) p ∙ sym (fold-append hash_step a s t)
