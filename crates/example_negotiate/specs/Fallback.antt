-- What is left of an identifier when its last parts are dropped (UTS #35, "Locale Inheritance and
-- Matching").
use Rattle.std.specs.Prelude.{◌≡◌, Some}
use Rattle.icu_locale_core.specs.Syntax.{Identifier}
use Rattle.icu_locale_core.specs.Parents.{parent_of}

-- the identifier itself, or the parent of what is left of it
pub data IsLeftOf (wanted : Identifier) : Identifier → Type 0 where
  itself : IsLeftOf wanted wanted
  parent : {left next : Identifier} → IsLeftOf wanted left → parent_of left ≡ Some next
      → IsLeftOf wanted next
