-- How many items there are in extensions. This project's rule.
use Rattle.std.specs.Prelude.{ℕ, ◌+◌, List, length}
use Rattle.iloc_copying.specs.Sizes.{items_in}
use Rattle.iloc_unicode.specs.Sizes.{unicode_items}
use Rattle.iloc_transform.specs.Sizes.{transform_items}
use Rattle.iloc_extensions.specs.declared.extensions.Extensions.{Extensions}

-- the other extensions, with their subtags
abbrev pub others_items : List (ℕ × List (List ℕ)) → ℕ
others_items = items_in (λ other. length other.1)

-- the items of all extensions
abbrev pub extensions_items : Extensions → ℕ
extensions_items e = unicode_items e.unicode + transform_items e.transform + length e.private
    + others_items e.other.items
