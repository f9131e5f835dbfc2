-- From the small locale that was read, or its refusal, to what the reader of the parts answers.
use Rattle.std.proofs.Common.{◌≡◌, Option, Some, None, ap, Ok, Err, option_map}
use Rattle.iloc_spec_grammar.specs.Syntax.{Text, languages}
use Rattle.iloc_langid.specs.SmallLocaleReads.{LocaleParts, small_locale_of, SmallLocaleTextReads}
use Rattle.iloc_spec_parts.specs.Subdivisions.{Subdivision}
use Rattle.iloc_spec_parts.specs.DataLocales as parts
use Rattle.iloc_spec_parts.specs.DataLocales.{DataMeans, not_small, no_subdivision, made_of, small_part}
use Rattle.iloc_subtags.specs.declared.parse_error.ParseError.{ParseError}
use Rattle.iloc_subtags.specs.declared.parse_error.ParseError.TheVariants.{InvalidLanguage, InvalidSubtag, InvalidExtension, DuplicatedExtension, OutOfMemory}
use Rattle.iloc_data_parts.specs.PartsReading.{PartsTextReads}

-- the parts of the small locale, with its region part
abbrev pub of_part : LocaleParts → Option (Option Subdivision) → Option parts.DataLocale
of_part p o = option_map (λ part. made_of p.0 p.1 part p.3) o

pub accepted : (t : Text) (p : LocaleParts) (part : Option Subdivision) → SmallLocaleTextReads t (Ok p) →
    small_part p.2 p.4 ≡ Some part → DataMeans languages t (made_of p.0 p.1 part p.3)
accepted t p part s h = record { small = small_locale_of p; is_small = s; means = ap (of_part p) h }

pub not_read : (t : Text) (e : ParseError) → SmallLocaleTextReads t (Err e) → PartsTextReads t (Err e)
not_read t InvalidLanguage h = not_small h
not_read t InvalidSubtag h = not_small h
not_read t InvalidExtension h = not_small h
not_read t DuplicatedExtension h = not_small h
not_read t OutOfMemory h = absurd h

pub no_part : (t : Text) (p : LocaleParts) → SmallLocaleTextReads t (Ok p) → small_part p.2 p.4 ≡ None →
    PartsTextReads t (Err InvalidExtension)
no_part t p s h = no_subdivision s (ap (of_part p) h)
