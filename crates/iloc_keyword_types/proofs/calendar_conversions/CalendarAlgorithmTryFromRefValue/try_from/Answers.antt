use Rattle.std.proofs.Common.{◌≡◌, Option, Some, None, option_map, sym}
use Rattle.std.specs.Option.{ok_or}
use Rattle.iloc_spec_parts.specs.Keywords.{EnumValue}
use Rattle.iloc_word_list.specs.declared.errors.PreferencesParseError.TheVariants.{InvalidKeywordValue}
use Rattle.iloc_keyword_types.specs.Reads.{Reads}
use Rattle.iloc_keyword_types.specs.declared.calendar_algorithm.CalendarAlgorithm.{CalendarAlgorithm}
use Rattle.iloc_keyword_types.specs.Calendars.{value_of}
use Rattle.iloc_keyword_types.specs.CalendarReading.{calendar_reads}
use Rattle.iloc_keyword_types.proofs.calendar_conversions.CalendarAlgorithmTryFromRefValue.try_from.Goals as goal

answered : (r : Option CalendarAlgorithm) (o : Option EnumValue) → option_map value_of r ≡ o →
    Reads value_of o (ok_or r InvalidKeywordValue)
answered None o h = sym h
answered (Some x) o h = sym h

pub returns : goal.returns
unfolding calendar_reads
returns c = rw c.ok_or.ensures.value (answered c.calendar_of.result _ c.calendar_of.ensures)
