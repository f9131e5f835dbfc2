-- A keyword, if its value is there.
use Rattle.std.specs.Prelude.{List, [], ◌∷◌, Option, Some, None}
use Rattle.iloc_spec_grammar.specs.Syntax.{Text, Fields}

-- The keyword of the key with that value, if there is one.
abbrev pub entry : Text → Option (List Text) → Fields
entry k None = []
entry k (Some v) = (k, v) ∷ []
