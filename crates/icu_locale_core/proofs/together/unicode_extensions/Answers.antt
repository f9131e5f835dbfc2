use Rattle.iloc_spec_parts.specs.Orders.{unicode_cmp}
use Rattle.iloc_spec_parts.specs.Hashes.{unicode_fed}
use Rattle.iloc_spec_parts.proofs.OrderLaws.{unicode_exact}
use Rattle.iloc_unicode.specs.UnicodeValue as unicode
use Rattle.icu_locale_core.proofs.TogetherLemmas.{by_value}
use Rattle.icu_locale_core.proofs.together.unicode_extensions.Goals as goal

pub returns : goal.returns
returns c = by_value unicode.value_of unicode_cmp unicode_exact _ unicode_fed _ c.equality.ensures.unicode
    c.hashes.ensures.unicode
