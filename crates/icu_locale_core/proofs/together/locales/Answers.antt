use Rattle.iloc_spec_parts.specs.Orders.{locale_cmp}
use Rattle.iloc_spec_parts.specs.Hashes.{locale_fed}
use Rattle.iloc_spec_parts.proofs.OrderLaws.{locale_exact}
use Rattle.iloc_locale.specs.LocaleReading as locale
use Rattle.icu_locale_core.proofs.TogetherLemmas.{by_value}
use Rattle.icu_locale_core.proofs.together.locales.Goals as goal

pub returns : goal.returns
returns c =
    by_value locale.value_of locale_cmp locale_exact _ locale_fed _ c.equality.ensures c.hashes.ensures
