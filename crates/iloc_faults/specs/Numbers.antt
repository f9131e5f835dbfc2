-- Numbers of variants in a row, and which come before one that repeats an earlier one: devices of proofs.
use Rattle.std.specs.Prelude.{◌≡◌, ◌⊎◌, ℕ, ◌≤◌, Bool, true, false, List, [], ◌∷◌, ◌++◌, length, map, ⊤}
use Rattle.std.specs.List.{AllByRecursion, IsDistinct, list_any}
use Rattle.std.specs.Ordering.{nat_cmp, eq_by_cmp}
use Rattle.iloc_spec_grammar.specs.Syntax.{Text, Variant, IsWord}
use Rattle.iloc_pieces.specs.Cursor.{pieces_left}
use Rattle.iloc_pieces.specs.Words.{word_number}
use Rattle.iloc_pieces.specs.declared.place.Cursor.{Cursor}

-- whether two numbers are the same
abbrev pub same : ℕ → ℕ → Bool
same = eq_by_cmp nat_cmp

-- the first pieces that are left are variants with these numbers
pub record AreNumbersAt (at : Cursor) (ns : List ℕ) : Type 0 where
  pub words : List Text
  pub rest : List Text
  pub cut : pieces_left at ≡ words ++ rest
  pub variants : AllByRecursion (IsWord Variant) words
  pub numbers : ns ≡ map word_number words

-- no number comes twice
abbrev pub AreDistinct : List ℕ → Type 0
AreDistinct ns = IsDistinct same ns

-- none of ns is among ks
abbrev pub AreOthers : List ℕ → List ℕ → Type 0
AreOthers ks ns = AllByRecursion (λ n. list_any (same n) ks ≡ false) ns

-- the first of ns, if there is one, is among ks
abbrev pub BeginsAmong : List ℕ → List ℕ → Type 0
BeginsAmong ks [] = ⊤
BeginsAmong ks (n ∷ ns) = list_any (same n) ks ≡ true

-- so many of ns, at most that many, come before one that is among ks
pub record ComeBefore (ks : List ℕ) (most : ℕ) (ns : List ℕ) (count : ℕ) : Type 0 where
  pub others : List ℕ
  pub later : List ℕ
  pub cut : ns ≡ others ++ later
  pub long : length others ≡ count
  pub within : count ≤ most
  pub differ : AreOthers ks others
  pub ends : (count ≡ most) ⊎ BeginsAmong ks later
