-- What taking a word in makes of a list of words.
use Rattle.std.specs.Prelude.{◌≡◌, Bool, true, false, List, ◌∷◌}
use Rattle.std.specs.List.{list_any}
use Rattle.std.specs.List.Sorted.{IsPermutation}
use Rattle.iloc_spec_grammar.specs.Syntax.{Text, is_same}

-- one word more, at whatever place; or the word is there, and nothing changes
abbrev pub TakesIn : Text → List Text → List Text → Bool → Type 0
TakesIn w old new true = IsPermutation (w ∷ old) new
TakesIn w old new false = (list_any (is_same w) old ≡ true) × (new ≡ old)
