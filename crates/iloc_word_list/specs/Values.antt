-- Lists of subtags in which `true` isn't kept.
use Rattle.std.specs.Prelude.{not, List, [], ◌∷◌, ◌++◌, filter}
use Rattle.iloc_spec_grammar.specs.Syntax.{Text, is_true}

-- the words other than `true`
abbrev pub without_true : List Text → List Text
without_true ws = filter (λ w. not (is_true w)) ws

-- a word more, unless it is `true`
abbrev pub with_subtag : List Text → Text → List Text
with_subtag ws w = ws ++ without_true (w ∷ [])
