-- The test of equality decides whether two data locales stand for the same.
use Rattle.std.proofs.Common.{◌≡◌, ◌↔◌, Bool, IsTrue}
use Rattle.std.specs.Cmp.{Equal-is}
use Rattle.iloc_spec_parts.specs.DataLocales.{data_key}
use Rattle.iloc_spec_parts.specs.DataOrders.{data_locale_cmp}
use Rattle.iloc_spec_parts.proofs.DataOrderLaws.{data_locale_ties}
use Rattle.iloc_data.specs.declared.data_locale.DataLocale.{DataLocale}
use Rattle.iloc_data.specs.DataValue.{value_of}
use Rattle.iloc_data.specs.DataEquality.{same_key}

pub same_key_decides : (d e : DataLocale) (b : Bool) → b ≡ same_key d e →
    IsTrue b ↔ (data_key (value_of d) ≡ data_key (value_of e))
same_key_decides d e b h =
    let tie = Equal-is (data_locale_cmp (value_of d) (value_of e)) in
    let ties = data_locale_ties (value_of d) (value_of e) in
    rw h (λ k. ties.0 (tie.0 k), λ k. tie.1 (ties.1 k))
