-- The orders of subdivisions and of data locales, which are compared by what they stand for. This
-- project's rule, as in the Rust crate.
use Rattle.std.specs.Ordering.{on, then_cmp}
use Rattle.std.specs.Option.{option_cmp}
use Rattle.std.specs.declared.cmp.Ordering.{Ordering}
use Rattle.iloc_spec_grammar.specs.Syntax.{word_cmp}
use Rattle.iloc_spec_parts.specs.Subdivisions.{Subdivision}
use Rattle.iloc_spec_parts.specs.DataLocales.{DataLocale, DataKey, data_key}

-- Subdivisions by region, then suffix.
abbrev pub subdivision_cmp : Subdivision → Subdivision → Ordering
subdivision_cmp = then_cmp (on (λ s. s.region) word_cmp) (on (λ s. s.suffix) word_cmp)

-- Keys by language, script, region and variant; a part that is absent comes first.
abbrev pub data_key_cmp : DataKey → DataKey → Ordering
data_key_cmp = then_cmp (on (λ k. k.language) word_cmp)
    (then_cmp (on (λ k. k.script) (option_cmp word_cmp))
    (then_cmp (on (λ k. k.region) (option_cmp subdivision_cmp))
    (on (λ k. k.variant) (option_cmp word_cmp))))

-- Data locales by what they stand for.
abbrev pub data_locale_cmp : DataLocale → DataLocale → Ordering
data_locale_cmp = on data_key data_key_cmp
