-- Laws of the order of locales as keys.
use Rattle.std.specs.Prelude.{◌≡◌, ◌↔◌}
use Rattle.std.specs.declared.cmp.Ordering.TheVariants.{Equal}
use Rattle.std.specs.Cmp.{IsTotalOrder, on_total}
use Rattle.iloc_spec_parts.proofs.OrderLaws.{locale_exact}
use Rattle.iloc_locale.specs.declared.ordered.OrderedLocale.{OrderedLocale}
use Rattle.iloc_locale.specs.Order.{value_of, order}

pub order_total : IsTotalOrder order
order_total = on_total value_of locale_exact.total

pub order_exact : (a b : OrderedLocale) → (order a b ≡ Equal) ↔ (value_of a ≡ value_of b)
order_exact a b = locale_exact.exact (value_of a) (value_of b)
