-- Where the text of each calendar stands.
use Rattle.std.specs.Prelude.{◌≡◌, Some, slice_get, refl}
use Rattle.iloc_spec_parts.specs.Keywords as keywords
use Rattle.iloc_spec_parts.specs.Keywords.{variants}
use Rattle.iloc_keyword_types.specs.WordTables.{word_at}
use Rattle.iloc_keyword_types.specs.declared.calendar_algorithm.CalendarAlgorithm.{CalendarAlgorithm}
use Rattle.iloc_keyword_types.specs.declared.calendar_algorithm.CalendarAlgorithm.TheVariants.{Buddhist}
use Rattle.iloc_keyword_types.specs.declared.calendar_algorithm.CalendarAlgorithm.TheVariants.{Chinese}
use Rattle.iloc_keyword_types.specs.declared.calendar_algorithm.CalendarAlgorithm.TheVariants.{Coptic, Dangi}
use Rattle.iloc_keyword_types.specs.declared.calendar_algorithm.CalendarAlgorithm.TheVariants.{Ethioaa}
use Rattle.iloc_keyword_types.specs.declared.calendar_algorithm.CalendarAlgorithm.TheVariants.{Ethiopic}
use Rattle.iloc_keyword_types.specs.declared.calendar_algorithm.CalendarAlgorithm.TheVariants.{Gregory}
use Rattle.iloc_keyword_types.specs.declared.calendar_algorithm.CalendarAlgorithm.TheVariants.{Hebrew, Indian}
use Rattle.iloc_keyword_types.specs.declared.calendar_algorithm.CalendarAlgorithm.TheVariants.{Hijri, Iso8601}
use Rattle.iloc_keyword_types.specs.declared.calendar_algorithm.CalendarAlgorithm.TheVariants.{Japanese}
use Rattle.iloc_keyword_types.specs.declared.calendar_algorithm.CalendarAlgorithm.TheVariants.{Persian, Roc}
use Rattle.iloc_keyword_types.specs.Calendars.{place}

pub placed_at : (c : CalendarAlgorithm)
    → slice_get (variants keywords.CalendarAlgorithm) (place c)
    ≡ Some (word_at (variants keywords.CalendarAlgorithm) (place c))
placed_at Buddhist = refl
placed_at Chinese = refl
placed_at Coptic = refl
placed_at Dangi = refl
placed_at Ethioaa = refl
placed_at Ethiopic = refl
placed_at Gregory = refl
placed_at Hebrew = refl
placed_at Indian = refl
placed_at (Hijri o) = refl
placed_at Iso8601 = refl
placed_at Japanese = refl
placed_at Persian = refl
placed_at Roc = refl
