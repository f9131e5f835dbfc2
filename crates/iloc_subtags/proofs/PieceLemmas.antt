-- Words are short pieces.
use Rattle.std.proofs.Common.{◌≡◌, ℕ, ◌<◌, ◌≤◌, Bool, true, false, length, refl, ◌∙◌, arith}
use Rattle.iloc_tinystr.specs.TinyText.{is_tiny_text}
use Rattle.iloc_tinystr.proofs.TinyTextLemmas.{length-le-tiny}
use Rattle.iloc_spec_grammar.specs.Syntax.{Text, Kind, Language, Script, Region, Variant, Subtag, UnicodeKey, TransformKey, Attribute, PrivateSubtag, SubdivisionSuffix, CurrencyType, is_word, IsWord, normal, greatest}
use Rattle.iloc_spec_grammar.proofs.WordsLaws.{is_word-normal}

-- no kind has words of more than eight bytes
greatest-le : (k : Kind) → greatest 8 k ≤ 8
greatest-le (Language T) = omega arith
greatest-le Script = omega arith
greatest-le Region = omega arith
greatest-le Variant = omega arith
greatest-le Subtag = omega arith
greatest-le UnicodeKey = omega arith
greatest-le TransformKey = omega arith
greatest-le Attribute = omega arith
greatest-le PrivateSubtag = omega arith
greatest-le SubdivisionSuffix = omega arith
greatest-le CurrencyType = omega arith

pub size-le : (k : Kind) (n : ℕ) → greatest 8 k ≡ n → n ≤ 8
size-le k n size = omega (arith, greatest-le k, size)

module _ (k : Kind) (n : ℕ) (size : greatest 8 k ≡ n)
    (fits : (text : Text) → IsWord k text → is_tiny_text n text ≡ true) where
  -- a longer piece is no word
  pub no_long_word : (text : Text) → 8 < length text → is_word k text ≡ false
  no_long_word text long = by (is_word k text) refl
    where
      by : (b : Bool) → is_word k text ≡ b → is_word k text ≡ false
      by true e = absurd (omega (arith, length-le-tiny n text (fits text e), size-le k n size))
      by false e = e
