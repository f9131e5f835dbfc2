-- How many items there are in a locale. This project's rule.
use Rattle.std.specs.Prelude.{ℕ, ◌+◌, length}
use Rattle.iloc_extensions.specs.Sizes.{extensions_items}
use Rattle.iloc_locale.specs.declared.locale.Locale.{Locale}

-- the variants, and the items of all extensions
abbrev pub locale_items : Locale → ℕ
locale_items l = length l.id.variants + extensions_items l.extensions
