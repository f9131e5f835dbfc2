-- Where a text is cut into region and suffix.
use Rattle.std.specs.Prelude.{ℕ, length, min}
use Rattle.iloc_spec_grammar.specs.Syntax.{Text}
use Rattle.iloc_spec_parts.specs.Subdivisions.{region_length}

-- the length of the region, or of the text if that is shorter
abbrev pub cut_of : Text → ℕ
cut_of t = min (region_length t) (length t)
