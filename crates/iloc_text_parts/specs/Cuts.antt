-- Where the parts of a locale stand in its normal text. Restates the canonical syntax of UTS #35,
-- section 3.2.1, from the left.
use Rattle.std.specs.Prelude.{◌≡◌, ◌==◌, List, [], ◌∷◌, length, Option, Some, None, unwrap_or}
use Rattle.std.specs.Prelude.{if◌then◌else◌, codes}
use Rattle.std.specs.Str.{bytes_eq}
use Rattle.iloc_spec_grammar.specs.Syntax.{Text, dashes}
use Rattle.iloc_spec_grammar.specs.Meaning.{Locale}
use Rattle.iloc_spec_grammar.specs.Values.{extensions_spelling, identifier_text}
use Rattle.iloc_text_parts.specs.declared.identifier.Cut.{Cut}

-- each part of the identifier, and the extensions
pub record IsCut (M : Locale) (c : Cut) : Type 0 where
  pub language : c.language.now ≡ M.id.language
  pub script : c.script.now ≡ unwrap_or M.id.script []
  pub region : c.region.now ≡ unwrap_or M.id.region []
  pub variants : c.variants.now ≡ dashes M.id.variants
  pub extensions : c.extensions.now ≡ dashes (extensions_spelling M.extensions)
  pub base_name : c.base_name.now ≡ identifier_text M.id

-- the pieces after the singleton `u`; none if `x` comes first (UTS #35 3.2,
-- `unicode_locale_extensions`)
abbrev pub after_u : List Text → List Text
after_u [] = []
after_u (p ∷ ps) = if bytes_eq p (codes "u") then ps else
    if bytes_eq p (codes "x") then [] else after_u ps

-- the pieces after the key, if it comes before a singleton (UTS #35 3.2, `ufield`)
abbrev pub after_key : Text → List Text → Option (List Text)
after_key key [] = None
after_key key (p ∷ ps) = if length p == 1 then None else
    if bytes_eq p key then Some ps else after_key key ps

-- the last piece alone
abbrev pub last_of : List Text → List Text
last_of [] = []
last_of (p ∷ []) = p ∷ []
last_of (p ∷ q ∷ ps) = last_of (q ∷ ps)
