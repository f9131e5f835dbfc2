-- The tests of single extensions and subtags.
use Rattle.std.specs.Prelude.{ℕ, Bool, not, ◌&&◌, ◌==◌, List, length, nat_lt}
use Rattle.std.specs.Char.{to_ascii_lowercase}
use Rattle.std.specs.FinMap.{is_sorted}
use Rattle.std.specs.List.{list_all}
use Rattle.std.specs.Ordering.{nat_cmp}
use Rattle.iloc_spec_grammar.specs.Syntax.{Text, is_true, Fields, is_other_singleton}

-- an other extension has a singleton of its own, and a word
abbrev pub has_own_place : ℕ × List Text → Bool
has_own_place (c, ws) =
    is_other_singleton c && ((to_ascii_lowercase c == c) && nat_lt 0 (length ws))

-- a subtag in a value is no `true`, and no key
abbrev pub is_plain : Text → Bool
is_plain w = not (is_true w) && not (length w == 2)

-- the others ascend, and each is in its own place
abbrev pub is_in_place : List (ℕ × List Text) → Bool
is_in_place os = is_sorted nat_cmp os && list_all has_own_place os

-- no value has anything else
abbrev pub is_read_back : Fields → Bool
is_read_back fs = list_all (λ (_, ws). list_all is_plain ws) fs
