use Rattle.iloc_spec_parts.specs.Orders.{transform_cmp}
use Rattle.iloc_spec_parts.specs.Hashes.{transform_fed}
use Rattle.iloc_spec_parts.proofs.OrderLaws.{transform_exact}
use Rattle.iloc_transform.specs.TransformReading as transform
use Rattle.icu_locale_core.proofs.TogetherLemmas.{by_value}
use Rattle.icu_locale_core.proofs.together.transform_extensions.Goals as goal

pub returns : goal.returns
returns c = by_value transform.value_of transform_cmp transform_exact _ transform_fed _ c.equality.ensures
    c.hashes.ensures
