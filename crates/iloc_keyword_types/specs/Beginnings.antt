-- The first four bytes of a subdivision's raw form: three of its region, and one of its suffix.
use Rattle.std.specs.Prelude.{◌≡◌, ℕ, true, [], ◌∷◌, ◌++◌}
use Rattle.iloc_spec_grammar.specs.Syntax.{Text}
use Rattle.iloc_tinystr.specs.TinyText.{raw_of, is_tiny_text}

pub record IsBeginning (region suffix bytes : Text) : Type 0 where
  pub first : ℕ
  pub rest : Text
  pub region_tiny : is_tiny_text 3 region ≡ true
  pub suffix_tiny : is_tiny_text 4 suffix ≡ true
  pub suffix_raw : raw_of 4 suffix ≡ first ∷ rest
  pub bytes_are : bytes ≡ raw_of 3 region ++ first ∷ []
