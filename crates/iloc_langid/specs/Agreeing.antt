-- Pieces and variants that are the same, in whatever order and case.
use Rattle.std.specs.Prelude.{Bool, ◌==◌, ◌&&◌, List, length}
use Rattle.std.specs.List.{AllByRecursion, list_any, list_all}
use Rattle.iloc_spec_grammar.specs.Syntax.{Text, Variant, lower, is_same, word_cmp}
use Rattle.iloc_spec_grammar.specs.Values.{IsNormal, StrictlyAscends}

-- some piece is the word, in whatever case
abbrev pub is_among : List Text → Text → Bool
is_among ps w = list_any (λ p. is_same w (lower p)) ps

-- each word is
abbrev pub are_all_among : List Text → List Text → Bool
are_all_among ps ws = list_all (is_among ps) ws

-- as many pieces as words, and each word is among them
abbrev pub are_just : List Text → List Text → Bool
are_just ps ws = (length ps == length ws) && are_all_among ps ws

-- a set of variants
abbrev pub AreVariants : List Text → Type 0
AreVariants ws = StrictlyAscends word_cmp ws × AllByRecursion (IsNormal Variant) ws
