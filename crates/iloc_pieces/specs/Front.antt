-- What stands at the front of a line: the words of an identifier that fit, and what follows them.
use Rattle.std.specs.Prelude.{◌≡◌, ℕ, suc, ◌+◌, ◌-◌, ◌<◌, ◌≤◌, true, false, [], ◌∷◌, ◌++◌, List, length, take}
use Rattle.std.specs.Prelude.{drop, get_or}
use Rattle.iloc_spec_grammar.specs.Syntax.{Text, pieces, first_piece, Language, Variant, is_word, IsWord}
use Rattle.iloc_spec_grammar.specs.Syntax.{languages}
use Rattle.iloc_spec_grammar.specs.Reading.{past, starts_block, after_region}
use Rattle.iloc_pieces.specs.Window.{text_in}
use Rattle.iloc_pieces.specs.declared.window.Window.{Window}

-- n bytes come before the first hyphen of t; of a longer first piece n is 16
pub record IsFirst (t : Text) (n : ℕ) : Type 0 where
  pub within : n ≤ length t
  pub few : n ≤ 16
  pub cut : n < length t → n < 16 → pieces t ≡ take n t ∷ pieces (drop (suc n) t)
  pub last : n < 16 → n ≡ length t → pieces t ≡ t ∷ []
  pub long : n ≡ 16 → 16 ≤ length (first_piece (pieces t))

-- after the variants the pieces go on with the block in this window
pub record GoesOn (ps : List Text) (b : Window) : Type 0 where
  pub rest : past (is_word Variant) ps ≡ pieces (text_in b)
  pub singleton : first_piece (pieces (text_in b)) ≡ get_or b.bytes.now 0 0 ∷ []

-- no language comes first
abbrev pub HasNoLanguage : Text → Type 0
HasNoLanguage t = is_word (Language languages) (first_piece (pieces t)) ≡ false

-- a language comes first, and the block follows the words of an identifier
abbrev pub HasBlock : Text → Window → Type 0
HasBlock t b = IsWord (Language languages) (first_piece (pieces t)) × GoesOn (after_region (pieces t)) b

-- a language comes first, and the block later; if a block follows the words of an identifier, it is
-- this one
pub record IsFound (t : Text) (b : Window) : Type 0 where
  pub begins : IsWord (Language languages) (first_piece (pieces t))
  pub less : length (text_in b) < length t
  pub cut : t ≡ take (length t - (length (text_in b) + 1)) t ++ 45 ∷ text_in b
  pub next : starts_block (past (is_word Variant) (after_region (pieces t))) ≡ true
      → past (is_word Variant) (after_region (pieces t)) ≡ pieces (text_in b)
  pub singleton : first_piece (pieces (text_in b)) ≡ get_or b.bytes.now 0 0 ∷ []
  pub some : 0 < length (text_in b)
