use Rattle.iloc_spec_parts.specs.Orders.{identifier_cmp}
use Rattle.iloc_spec_parts.specs.Hashes.{identifier_fed}
use Rattle.iloc_spec_parts.proofs.OrderLaws.{identifier_exact}
use Rattle.iloc_langid.specs.Reads as langid
use Rattle.icu_locale_core.proofs.TogetherLemmas.{by_value}
use Rattle.icu_locale_core.proofs.together.identifiers.Goals as goal

pub returns : goal.returns
returns c = by_value langid.value_of identifier_cmp identifier_exact _ identifier_fed _
    c.equality.ensures.identifiers c.hashes.ensures
