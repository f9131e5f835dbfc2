-- Hashes of subdivisions and of data locales: what they feed a hasher, data locales by what they
-- stand for. This project's rule, as in the Rust crate.
use Rattle.std.specs.Prelude.{◌++◌}
use Rattle.std.specs.Hash.{HashWrites, option}
use Rattle.iloc_spec_parts.specs.Hashes.{word_fed}
use Rattle.iloc_spec_parts.specs.Subdivisions.{Subdivision}
use Rattle.iloc_spec_parts.specs.DataLocales.{DataLocale, DataKey, data_key}

-- A subdivision feeds region and suffix.
abbrev pub subdivision_fed : Subdivision → HashWrites
subdivision_fed s = word_fed s.region ++ word_fed s.suffix

-- A key feeds language, script, region with its suffix, and variant.
abbrev pub data_key_fed : DataKey → HashWrites
data_key_fed k = word_fed k.language ++ option word_fed k.script ++ option subdivision_fed k.region
    ++ option word_fed k.variant

-- A data locale feeds what it stands for.
abbrev pub data_locale_fed : DataLocale → HashWrites
data_locale_fed d = data_key_fed (data_key d)
