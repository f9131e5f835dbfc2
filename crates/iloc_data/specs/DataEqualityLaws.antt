-- Laws of the equality of data locales.
use Rattle.std.proofs.Common.{◌≡◌, true, ap}
use Rattle.std.specs.Cmp.{IsEquivalence, eq_by_cmp_equiv, on_equiv, Equal-is}
use Rattle.iloc_spec_parts.specs.DataHashes.{data_key_fed, data_locale_fed}
use Rattle.iloc_spec_parts.proofs.DataOrderLaws.{data_locale_total, data_locale_ties}
use Rattle.iloc_data.specs.declared.data_locale.DataLocale.{DataLocale}
use Rattle.iloc_data.specs.DataValue.{value_of}
use Rattle.iloc_data.specs.DataEquality.{same_key}

pub same_key_equiv : IsEquivalence same_key
same_key_equiv = on_equiv value_of (eq_by_cmp_equiv data_locale_total)

pub fed_alike : (d e : DataLocale) → same_key d e ≡ true
    → data_locale_fed (value_of d) ≡ data_locale_fed (value_of e)
fed_alike d e h =
    ap data_key_fed ((data_locale_ties (value_of d) (value_of e)).0 ((Equal-is _).0 h))
