-- How many items there are in a transform. This project's rule.
use Rattle.std.specs.Prelude.{ℕ, ◌+◌, Option, Some, None, length}
use Rattle.iloc_litemap.specs.Pairs.{pairs_items}
use Rattle.iloc_langid.specs.declared.identifier.LanguageIdentifier.{LanguageIdentifier}
use Rattle.iloc_transform.specs.declared.transform.Transform.{Transform}

-- the variants of an identifier that may be there
abbrev pub lang_items : Option LanguageIdentifier → ℕ
lang_items None = 0
lang_items (Some lang) = length lang.variants

-- those, and the fields with the subtags of their values
abbrev pub transform_items : Transform → ℕ
transform_items t = lang_items t.lang + pairs_items length t.fields
