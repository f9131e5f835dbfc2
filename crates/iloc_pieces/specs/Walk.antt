-- The marks of pieces of one byte.
use Rattle.std.specs.Prelude.{ℕ, ◌/◌, map, bit_and}
use Rattle.std.specs.Simd.Lanes.{mask_l}
use Rattle.iloc_spec_grammar.specs.Syntax.{Text}
use Rattle.iloc_pieces.specs.Run.{is_hyphen}

-- a bit for each hyphen
abbrev pub hyphen_marks : Text → ℕ
hyphen_marks v = mask_l (map is_hyphen v)

-- a bit for each hyphen that has another one two bytes later
abbrev pub single_marks : Text → ℕ
single_marks v = bit_and (hyphen_marks v) (hyphen_marks v / 4)
