use Rattle.std.specs.Cmp.{Equal-is}
use Rattle.iloc_spec_parts.specs.DataOrders.{data_locale_cmp}
use Rattle.iloc_data.specs.DataEqualityLaws.{fed_alike}
use Rattle.iloc_data.specs.DataValue.{value_of}
use Rattle.icu_locale_core.proofs.together.data_locales.Goals as goal

pub returns : goal.returns
returns c = record {
  equal = λ d e. let t = Equal-is (data_locale_cmp (value_of d) (value_of e)) in (λ h. t.1 h, λ h. t.0 h);
  alike = fed_alike;
}
