-- What becomes of a piece of an input, and of the line that is pending when it comes. This
-- library's rule.
use Rattle.std.specs.Prelude.{◌≡◌, ℕ, ◌+◌, List, ◌++◌, length}
use Rattle.std.specs.List.{AllByRecursion}
use Rattle.iloc_spec_grammar.specs.Syntax.{Text}
use Rattle.iloc_program.specs.Lines.{lines_of, ended, IsOneLine}
use Rattle.iloc_program.specs.Numbered.{AreEntries, IsListing}

-- The pending bytes and the piece are lines that end, whose entries were added, and what is pending
-- then.
pub record Feeds (IsEntry : ℕ → Text → Text → Type 0) (n : ℕ)
    (pending piece old new pending' : Text) (next : ℕ) : Type 0 where
  pub lines : List Text
  pub added : Text
  pub are_lines : AllByRecursion IsOneLine lines
  pub one_line : IsOneLine pending'
  pub cut : pending ++ piece ≡ ended lines ++ pending'
  pub are_entries : AreEntries IsEntry n lines added
  pub adds : new ≡ old ++ added
  pub counts : next ≡ n + length lines

-- The listing of the pending bytes, which end the input, was added.
pub record Ends (IsEntry : ℕ → Text → Text → Type 0) (n : ℕ) (pending old new : Text) (next : ℕ)
    : Type 0 where
  pub added : Text
  pub is_listing : IsListing IsEntry n pending added
  pub adds : new ≡ old ++ added
  pub counts : next ≡ n + length (lines_of pending)
