-- The fallback chain of locales: from a locale to its parent, and so on to `und`. This library's rule.
use Rattle.std.specs.Prelude.{◌≡◌, ◌≢◌, ◌⊎◌, ℕ, zero, suc, Option, Some, option_map}
use Rattle.iloc_spec_grammar.specs.Meaning.{Locale, no_extensions, without_extensions}
use Rattle.iloc_langid.specs.Parents.{parent_of}

-- the parent of a locale: without its extensions; or, if it has none, that of its identifier, if that has one
abbrev pub IsParent : Locale → Option Locale → Type 0
IsParent M parent = ((M.extensions ≢ no_extensions) × (parent ≡ Some (without_extensions M.id)))
    ⊎ ((M.extensions ≡ no_extensions) × (parent ≡ option_map without_extensions (parent_of M.id)))

-- n steps lead from a locale to another, each to the parent
abbrev pub StepsTo : ℕ → Locale → Locale → Type 0
StepsTo zero M N = M ≡ N
StepsTo (suc n) M N = (P : Locale) × IsParent M (Some P) × StepsTo n P N
