-- The singleton at the front of pieces.
use Rattle.std.specs.Prelude.{ℕ, List, Option, option_map}
use Rattle.std.specs.Char.{to_ascii_lowercase}
use Rattle.iloc_spec_grammar.specs.Syntax.{Text}
use Rattle.iloc_subtags.specs.NextPiece.{byte_at}

-- the first piece if it has one byte, in lower case
abbrev pub singleton_at : List Text → Option ℕ
singleton_at ps = option_map to_ascii_lowercase (byte_at ps)
