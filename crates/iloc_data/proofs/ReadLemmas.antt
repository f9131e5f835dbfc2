-- What follows from what the reader of data locales answers.
use Rattle.std.specs.Prelude.{⊤}
use Rattle.std.proofs.Common.{◌≡◌, Result, Ok, Err, IfOk}
use Rattle.iloc_spec_grammar.specs.Syntax.{Text, languages, two_or_three}
use Rattle.iloc_spec_grammar.specs.Meaning as meaning
use Rattle.iloc_spec_grammar.specs.Meaning.{Means, Fault}
use Rattle.iloc_spec_grammar.proofs.RawLaws.{languages_table, narrow_in_wide}
use Rattle.iloc_spec_parts.specs.Small.{locale_of_small}
use Rattle.iloc_spec_parts.proofs.SmallLaws.{small_means}
use Rattle.iloc_spec_parts.specs.DataLocales as parts
use Rattle.iloc_spec_parts.specs.DataLocales.{DataMeans, HasDataFault, not_small, no_subdivision, made_of, small_part, data_text}
use Rattle.iloc_spec_parts.proofs.DataLaws.{data_apart, one_data, one_data_fault, read_back}
use Rattle.iloc_spec_parts.proofs.WiderData.{data_wider}
use Rattle.iloc_spec_parts.specs.Preferences.{language_priority, preferences}
use Rattle.iloc_spec_parts.proofs.ConversionLaws.{agrees}
use Rattle.iloc_subtags.specs.declared.parse_error.ParseError.{ParseError}
use Rattle.iloc_data.specs.declared.data_locale.DataLocale.{DataLocale}
use Rattle.iloc_subtags.specs.Judging.{Accepts, Refuses}
use Rattle.iloc_subtags.proofs.Judged.{Judges, accepts, refuses}
use Rattle.iloc_data.specs.DataValue.{value_of}
use Rattle.iloc_data.specs.Reads.{DataTextReads}

-- what is owed to each text

data_judges : (t : Text) → Judges (DataMeans languages t) (HasDataFault languages t)
data_judges t = record {
  one = one_data languages_table t;
  apart = data_apart languages_table t;
  one_fault = λ f g. one_data_fault t;
}

pub data_accepts : (t : Text) (r : Result DataLocale ParseError) → DataTextReads t r →
    (d : parts.DataLocale) → DataMeans languages t d → Accepts value_of ⊤ d r
data_accepts t r h = accepts value_of ⊤ (data_judges t) r h

pub data_refuses : (t : Text) (r : Result DataLocale ParseError) → DataTextReads t r → (f : Fault) →
    HasDataFault languages t f → Refuses ⊤ f r
data_refuses t r h = refuses value_of ⊤ (data_judges t) r h

-- what else is known of what is read

ours : (t : Text) (d : parts.DataLocale) → DataMeans two_or_three t d → DataMeans languages t d
ours t d h = data_wider narrow_in_wide t d h

pub reads_back : (t : Text) (d : parts.DataLocale) → DataMeans languages t d →
    DataMeans languages (data_text d) d
reads_back t d h = read_back t d h

pub is_converted : (t : Text) (d : parts.DataLocale) → DataMeans languages t d → (M : meaning.Locale) →
    Means languages t M → d ≡ language_priority (preferences M)
is_converted t d h M m = agrees languages_table t d M h m

-- a text that means a data locale is small, and so it means a locale
pub is_meant : (t : Text) (d : parts.DataLocale) → DataMeans languages t d
    → (M : meaning.Locale) × Means languages t M × (d ≡ language_priority (preferences M))
is_meant t d h =
    let M : meaning.Locale = locale_of_small h.small in
    let m : Means languages t M = small_means t h.small h.is_small in
    (M, m, is_converted t d h M m)

pub if_read : (t : Text) {P : Text → parts.DataLocale → Type 0} →
    ((u : Text) (d : parts.DataLocale) → DataMeans languages u d → P u d) →
    (r : Result DataLocale ParseError) →
    DataTextReads t r → IfOk r (λ d. P t (value_of d))
if_read t h (Ok d) m = h t (value_of d) m
if_read t h (Err e) m = tt

pub keeps_narrow : (t : Text) (r : Result DataLocale ParseError) → DataTextReads t r →
    (d : parts.DataLocale) → DataMeans two_or_three t d → Accepts value_of ⊤ d r
keeps_narrow t r h d n = data_accepts t r h d (ours t d n)
