-- What a handle stands for.
use Rattle.std.specs.Prelude.{◌≢◌, Option, None, Some, ⊤}
use Rattle.iloc_spec_grammar.specs.Meaning as meaning
use Rattle.iloc_locale.specs.LocaleReading.{value_of, unknown_locale}
use Rattle.iloc_locale.specs.declared.locale.Locale.{Locale}

-- the locale in its box; without a box, `und`
abbrev pub held_locale : Option Locale → meaning.Locale
held_locale None = unknown_locale
held_locale (Some l) = value_of l

-- a handle that stands for `und` has no box
abbrev pub IsTight : Option Locale → Type 0
IsTight None = ⊤
IsTight (Some l) = value_of l ≢ unknown_locale
