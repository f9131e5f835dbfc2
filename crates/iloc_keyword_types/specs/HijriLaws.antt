-- Where the text of each kind of Hijri calendar stands.
use Rattle.std.specs.Prelude.{◌≡◌, Some, slice_get, refl}
use Rattle.iloc_spec_parts.specs.Keywords.{hijri_kinds}
use Rattle.iloc_keyword_types.specs.WordTables.{word_at}
use Rattle.iloc_keyword_types.specs.declared.hijri.HijriCalendarAlgorithm.{HijriCalendarAlgorithm}
use Rattle.iloc_keyword_types.specs.declared.hijri.HijriCalendarAlgorithm.TheVariants.{Umalqura, Tbla, Civil}
use Rattle.iloc_keyword_types.specs.declared.hijri.HijriCalendarAlgorithm.TheVariants.{Rgsa}
use Rattle.iloc_keyword_types.specs.Hijri.{kind_place}

pub kind_placed : (x : HijriCalendarAlgorithm)
    → slice_get hijri_kinds (kind_place x) ≡ Some (word_at hijri_kinds (kind_place x))
kind_placed Umalqura = refl
kind_placed Tbla = refl
kind_placed Civil = refl
kind_placed Rgsa = refl
