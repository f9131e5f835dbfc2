-- What each calendar stands for: this library's rule. The place of a variant is its number from 0
-- in the order of its enum (`tag_of`), as `as u8` gives it for an enum without fields.
use denote.Enum.Declared.{tag_of}
use Rattle.std.specs.Prelude.{ℕ, Option, None, option_map}
use Rattle.iloc_spec_grammar.specs.Syntax.{Text, join}
use Rattle.iloc_spec_parts.specs.Keywords as keywords
use Rattle.iloc_spec_parts.specs.Keywords.{EnumValue, enum_words}
use Rattle.iloc_keyword_types.specs.declared.calendar_algorithm.CalendarAlgorithm.{CalendarAlgorithm}
use Rattle.iloc_keyword_types.specs.declared.calendar_algorithm.CalendarAlgorithm.TheVariants.{Hijri}
use Rattle.iloc_keyword_types.specs.contracts.calendar_algorithm.CalendarAlgorithm.{the_type}
use Rattle.iloc_keyword_types.specs.Hijri.{kind_place}

-- Its place among the texts of the keyword, whatever the kind.
abbrev pub place : CalendarAlgorithm → ℕ
place c = tag_of the_type c

-- The place of the kind of a Hijri calendar.
abbrev pub kind : CalendarAlgorithm → Option ℕ
kind (Hijri o) = option_map kind_place o
kind _ = None

-- The value of the keyword.
abbrev pub value_of : CalendarAlgorithm → EnumValue
value_of c = (place c, kind c)

-- The text of a value.
abbrev pub enum_text : EnumValue → Option Text
enum_text v = option_map join (enum_words keywords.CalendarAlgorithm v)
