use Rattle.iloc_spec_parts.specs.Orders.{extensions_cmp}
use Rattle.iloc_spec_parts.specs.Hashes.{extensions_fed}
use Rattle.iloc_spec_parts.proofs.OrderLaws.{extensions_exact}
use Rattle.iloc_extensions.specs.ExtensionsValue as extensions
use Rattle.icu_locale_core.proofs.TogetherLemmas.{by_value}
use Rattle.icu_locale_core.proofs.together.all_extensions.Goals as goal

pub returns : goal.returns
returns c = by_value extensions.value_of extensions_cmp extensions_exact _ extensions_fed _ c.equality.ensures
    c.hashes.ensures
