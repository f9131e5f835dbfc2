-- The place of each kind of Hijri calendar: its number from 0 in the order of the enum.
use denote.Enum.Declared.{tag_of}
use Rattle.std.specs.Prelude.{ℕ}
use Rattle.iloc_keyword_types.specs.declared.hijri.HijriCalendarAlgorithm.{HijriCalendarAlgorithm}
use Rattle.iloc_keyword_types.specs.contracts.hijri.HijriCalendarAlgorithm.{the_type}

-- The place of a kind among the texts of all.
abbrev pub kind_place : HijriCalendarAlgorithm → ℕ
kind_place x = tag_of the_type x
