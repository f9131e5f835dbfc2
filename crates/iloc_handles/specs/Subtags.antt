-- Subtags that are set, added and removed.
use Rattle.std.specs.Prelude.{◌≡◌, ◌≢◌, true, false, not, List, [], filter, Option, None, Some}
use Rattle.std.specs.List.{list_any}
use Rattle.iloc_spec_grammar.specs.Syntax.{Text, Kind, IsWord, is_word, is_same, normal}

-- an empty text is no subtag, and another one is the subtag of its normal form
abbrev pub IsOptional : Kind → Text → Option Text → Type 0
IsOptional kind t None = t ≡ []
IsOptional kind t (Some w) = IsWord kind t × (w ≡ normal kind t)

-- neither of both
abbrev pub IsNeither : Kind → Text → Type 0
IsNeither kind t = (t ≢ []) × (is_word kind t ≡ false)

-- the text is a subtag that is among these
abbrev pub HasWord : Kind → Text → List Text → Type 0
HasWord kind t ws = IsWord kind t × (list_any (is_same (normal kind t)) ws ≡ true)

-- all but the subtag of the text
abbrev pub without_word : Kind → Text → List Text → List Text
without_word kind t ws = filter (λ w. not (is_same (normal kind t) w)) ws
