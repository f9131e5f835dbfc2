-- Preferences of formatters: those of a locale, and known keywords of `u` (UTS #35's `nu`, `hc`,
-- `ca`). This project's rule, as the Rust crate's macros make them.
use Rattle.std.specs.Prelude.{Bool, ◌&&◌, Option, None, codes}
use Rattle.std.specs.Option.{option_or}
use Rattle.iloc_spec_grammar.specs.Syntax.{Text}
use Rattle.iloc_spec_grammar.specs.Meaning.{Locale}
use Rattle.iloc_spec_parts.specs.SingleValues.{single}
use Rattle.iloc_spec_parts.specs.Keywords.{EnumValue, HourCycle, CalendarAlgorithm, key, enum_reads}
use Rattle.iloc_spec_parts.specs.Preferences.{Preferences, read_keyword, is_readable, preferences}
use Rattle.iloc_spec_parts.specs.Preferences.{is_strict, merge}

-- What a time formatter prefers: what a locale does, with a numbering system and an hour cycle.
pub record TimePreferences : Type 0 where
  pub locale_preferences : Preferences
  pub numbering_system : Option Text
  pub hour_cycle : Option EnumValue

-- What a formatter of dates and times prefers: what a time formatter does, with a calendar.
pub record FormatPreferences : Type 0 where
  pub time : TimePreferences
  pub calendar_algorithm : Option EnumValue

-- Those of a time formatter of a locale; each keyword is what it reads as, if it is readable.
abbrev pub time_preferences : Locale → TimePreferences
time_preferences M = record {
  locale_preferences = preferences M;
  numbering_system = read_keyword single (codes "nu") M;
  hour_cycle = read_keyword (enum_reads HourCycle) (key HourCycle) M;
}

-- Those of a formatter of a locale.
abbrev pub format_preferences : Locale → FormatPreferences
format_preferences M = record {
  time = time_preferences M;
  calendar_algorithm = read_keyword (enum_reads CalendarAlgorithm) (key CalendarAlgorithm) M;
}

-- Those of a locale that is strict, and of which each keyword is absent or readable.
abbrev pub is_strict_time : Locale → Bool
is_strict_time M = is_strict M
    && (is_readable single (codes "nu") M && is_readable (enum_reads HourCycle) (key HourCycle) M)

-- So too with a calendar.
abbrev pub is_strict_format : Locale → Bool
is_strict_format M = is_strict_time M
    && is_readable (enum_reads CalendarAlgorithm) (key CalendarAlgorithm) M

-- These preferences and no keyword.
abbrev pub plain_time : Preferences → TimePreferences
plain_time p = record { locale_preferences = p; numbering_system = None; hour_cycle = None }

-- These preferences of a time formatter and no calendar.
abbrev pub plain_format : TimePreferences → FormatPreferences
plain_format t = record { time = t; calendar_algorithm = None }

-- Merging: what the second knows wins.
abbrev pub merge_time : TimePreferences → TimePreferences → TimePreferences
merge_time a b = record {
  locale_preferences = merge a.locale_preferences b.locale_preferences;
  numbering_system = option_or b.numbering_system a.numbering_system;
  hour_cycle = option_or b.hour_cycle a.hour_cycle;
}

-- So too with a calendar.
abbrev pub merge_format : FormatPreferences → FormatPreferences → FormatPreferences
merge_format a b = record {
  time = merge_time a.time b.time;
  calendar_algorithm = option_or b.calendar_algorithm a.calendar_algorithm;
}
