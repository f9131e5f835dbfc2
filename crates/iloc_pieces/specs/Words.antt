-- The numbers of words, that give their order.
use Rattle.std.specs.Prelude.{◌≡◌, ℕ, zero, suc, ◌+◌, ◌*◌, ◌^◌, ◌<◌, ◌≤◌, true, [], ◌∷◌, get_or, length}
use Rattle.iloc_spec_grammar.specs.Syntax.{Text, letters_or_digits, lower}

-- the number of the first two bytes in lower case: a key for which it is greater comes later
abbrev pub two_number : Text → ℕ
two_number p = 256 * get_or (lower p) 0 0 + get_or (lower p) 1 0

-- one to eight letters and digits
pub record IsUpToEight (p : Text) : Type 0 where
  pub some : 0 < length p
  pub few : length p ≤ 8
  pub bytes : letters_or_digits p ≡ true

-- the number of the first n bytes, the first highest, with zeros behind a shorter text
unfoldable pub high_first : ℕ → Text → ℕ
high_first zero p = 0
high_first (suc n) [] = 0
high_first (suc n) (b ∷ p) = b * 256 ^ n + high_first n p

-- the number of the first eight bytes in lower case: a word for which it is greater comes later
unfoldable pub word_number : Text → ℕ
word_number p = high_first 8 (lower p)
