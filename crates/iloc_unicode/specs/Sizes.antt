-- How many items there are in an extension. This project's rule.
use Rattle.std.specs.Prelude.{ℕ, ◌+◌, length}
use Rattle.iloc_litemap.specs.Pairs.{pairs_items}
use Rattle.iloc_unicode.specs.declared.unicode.Unicode.{Unicode}

-- the keywords with the subtags of their values, and the attributes
abbrev pub unicode_items : Unicode → ℕ
unicode_items u = pairs_items length u.keywords + length u.attributes
