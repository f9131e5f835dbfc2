-- Data locales are equal if they stand for the same, and then feed a hasher alike. This library's
-- rule, as in the Rust crate.
use Rattle.std.proofs.Common.{Bool}
use Rattle.std.specs.Ordering.{eq_by_cmp}
use Rattle.iloc_spec_parts.specs.DataOrders.{data_locale_cmp}
use Rattle.iloc_data.specs.declared.data_locale.DataLocale.{DataLocale}
use Rattle.iloc_data.specs.DataValue.{value_of}

-- The test by which they are equal.
abbrev pub same_key : DataLocale → DataLocale → Bool
same_key d e = eq_by_cmp data_locale_cmp (value_of d) (value_of e)
