-- Entries of lines, some of which have the name of their file before them. This program's rule.
use Rattle.std.specs.Prelude.{◌≡◌, ◌⊎◌, ◌∷◌, ◌++◌}
use Rattle.iloc_spec_grammar.specs.Syntax.{Text}

-- The text is an entry, or a name, a colon and an entry.
abbrev pub IsNamedEntry : (Text → Type 0) → Text → Type 0
IsNamedEntry IsEntry t = IsEntry t
    ⊎ ((name : Text) × (entry : Text) × IsEntry entry × (t ≡ name ++ 58 ∷ entry))
