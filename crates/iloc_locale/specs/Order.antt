-- The order of locales as keys.
use Rattle.std.specs.declared.cmp.Ordering.{Ordering}
use Rattle.iloc_spec_grammar.specs.Meaning.{Locale}
use Rattle.iloc_spec_parts.specs.Orders.{locale_cmp}
use Rattle.iloc_locale.specs.LocaleReading as locale
use Rattle.iloc_locale.specs.declared.ordered.OrderedLocale.{OrderedLocale}

-- the value of the locale
abbrev pub value_of : OrderedLocale → Locale
value_of k = locale.value_of k.locale

-- by identifier, then by extensions
abbrev pub order : OrderedLocale → OrderedLocale → Ordering
order a b = locale_cmp (value_of a) (value_of b)
