-- The orders of subdivisions and data locales are total; data locales tie where they stand for the same.
use Rattle.std.proofs.Common.{arith, ◌≡◌, ◌↔◌, Option, refl}
use Rattle.std.specs.declared.cmp.Ordering.TheVariants.{Equal}
use Rattle.std.specs.Cmp.{IsTotalOrder, on_total}
use Rattle.iloc_spec_parts.specs.Subdivisions.{Subdivision}
use Rattle.iloc_spec_parts.specs.DataLocales.{DataLocale, data_key}
use Rattle.iloc_spec_parts.specs.Orders.{IsExactOrder}
use Rattle.iloc_spec_parts.specs.DataOrders.{subdivision_cmp, data_key_cmp, data_locale_cmp}
use Rattle.iloc_spec_parts.proofs.OrderLaws.{on_exact, pair_exact, option_exact, word_exact}
use Rattle.iloc_spec_grammar.specs.Syntax.{Text}

pub subdivision_exact : IsExactOrder subdivision_cmp
subdivision_exact = grind (arith, on_exact, pair_exact, word_exact)

key_exact : IsExactOrder data_key_cmp
key_exact = on_exact {Y = Text × (Option Text × (Option Subdivision × Option Text))}
    (λ k. (k.language, (k.script, (k.region, k.variant))))
    (λ p. record { language = p.0; script = p.1.0; region = p.1.1.0; variant = p.1.1.1 })
    (λ k. refl)
    (pair_exact word_exact (pair_exact (option_exact word_exact)
    (pair_exact (option_exact subdivision_exact) (option_exact word_exact))))

pub data_locale_total : IsTotalOrder data_locale_cmp
data_locale_total = on_total data_key key_exact.total

-- data locales tie where they stand for the same
pub data_locale_ties : (d e : DataLocale) → (data_locale_cmp d e ≡ Equal) ↔ (data_key d ≡ data_key e)
data_locale_ties d e = key_exact.exact (data_key d) (data_key e)
