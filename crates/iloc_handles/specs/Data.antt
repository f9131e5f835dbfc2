-- What a locale is as a data locale, and what formatters read of it.
use Rattle.std.specs.Prelude.{ℕ, [], Option, codes, option_map, option_and_then, slice_get, unwrap_or}
use Rattle.iloc_spec_grammar.specs.Syntax.{Text, join}
use Rattle.iloc_spec_grammar.specs.Meaning.{Locale}
use Rattle.iloc_spec_parts.specs.DataLocales.{DataLocale}
use Rattle.iloc_spec_parts.specs.Preferences.{language_priority, preferences, read_keyword}
use Rattle.iloc_spec_parts.specs.Preferences.{region_priority}
use Rattle.iloc_spec_parts.specs.Keywords.{CalendarAlgorithm, HourCycle, enum_reads, enum_words, key}
use Rattle.iloc_spec_parts.specs.Keywords.{single, variants}
use Rattle.iloc_calls.specs.Numbers.{ByNumber}
use Rattle.iloc_handles.specs.declared.data.Priority.{Priority}
use Rattle.iloc_handles.specs.declared.data.Priority.TheVariants.{Language, Region}

abbrev pub priority_number : Priority → ℕ
priority_number Language = 0
priority_number Region = 1

-- what a call answers to the number of a priority
abbrev pub ByPriority : ℕ → (Priority → ℕ → Type 0) → Type 0 → ℕ → Type 0
ByPriority = ByNumber priority_number 1

-- the data locale of a locale
abbrev pub data_of : Priority → Locale → DataLocale
data_of Language M = language_priority (preferences M)
data_of Region M = region_priority (preferences M)

-- the text of the calendar that `ca` reads as, if it is there and readable
abbrev pub calendar_text : Locale → Option Text
calendar_text M = option_and_then (λ v. option_map join (enum_words CalendarAlgorithm v))
    (read_keyword (enum_reads CalendarAlgorithm) (key CalendarAlgorithm) M)

-- the word of the hour cycle that `hc` reads as
abbrev pub hours_text : Locale → Option Text
hours_text M = option_map (λ v. unwrap_or (slice_get (variants HourCycle) v.0) [])
    (read_keyword (enum_reads HourCycle) (key HourCycle) M)

-- the numbering system that `nu` reads as
abbrev pub numbering_text : Locale → Option Text
numbering_text M = read_keyword single (codes "nu") M
