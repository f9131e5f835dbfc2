-- What preferences of formatters stand for: this library's rule.
use denote.Enum.Declared.{tag_of as place}
use Rattle.std.specs.Prelude.{None, option_map}
use Rattle.iloc_spec_parts.specs.Keywords.{EnumValue}
use Rattle.iloc_spec_parts.specs.Formatters as rules
use Rattle.iloc_enum_keywords.specs.declared.hour_cycle.HourCycle.{HourCycle}
use Rattle.iloc_enum_keywords.specs.contracts.hour_cycle.HourCycle.{the_type}
use Rattle.iloc_keyword_types.specs.Calendars.{value_of}
use Rattle.iloc_data.specs.declared.time_preferences.TimePreferences.{TimePreferences}
use Rattle.iloc_data.specs.declared.format_preferences.FormatPreferences.{FormatPreferences}

-- An hour cycle: the value of its place.
abbrev pub hours_value : HourCycle → EnumValue
hours_value h = (place the_type h, None)

-- Preferences of a time formatter.
abbrev pub time_value : TimePreferences → rules.TimePreferences
time_value p = record {
  locale_preferences = p.locale_preferences;
  numbering_system = p.numbering_system;
  hour_cycle = option_map hours_value p.hour_cycle;
}

-- Preferences of a formatter of dates and times.
abbrev pub format_value : FormatPreferences → rules.FormatPreferences
format_value p = record {
  time = record {
    locale_preferences = p.locale_preferences;
    numbering_system = p.numbering_system;
    hour_cycle = option_map hours_value p.hour_cycle;
  };
  calendar_algorithm = option_map value_of p.calendar_algorithm;
}
