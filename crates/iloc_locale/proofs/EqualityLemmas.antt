-- `==` at locales decides whether they stand for the same.
use Rattle.std.proofs.Common.{◌≡◌, Bool, ◌&&◌, ap}
use Rattle.std.specs.Bool.{Decides}
use Rattle.std.proofs.lemmas.Bool.Decides.{Decides-and, Decides-like}
use Rattle.iloc_langid.specs.Reads as langid
use Rattle.iloc_langid.specs.declared.identifier.LanguageIdentifier.{LanguageIdentifier}
use Rattle.iloc_extensions.specs.ExtensionsValue as extensions
use Rattle.iloc_extensions.specs.declared.extensions.Extensions.{Extensions}
use Rattle.iloc_locale.specs.LocaleReading.{value_of}
use Rattle.iloc_locale.specs.declared.locale.Locale.{Locale}

-- by identifier and extensions
module _ (E : LanguageIdentifier → LanguageIdentifier → Bool) (F : Extensions → Extensions → Bool) where
  pub locales_decide : ((i j : LanguageIdentifier) →
      Decides (E i j) (langid.value_of i ≡ langid.value_of j)) →
      ((d e : Extensions) → Decides (F d e) (extensions.value_of d ≡ extensions.value_of e)) →
      (l m : Locale) → Decides (E l.id m.id && F l.extensions m.extensions) (value_of l ≡ value_of m)
  locales_decide ids parts l m = Decides-like _
      (λ x k. record { id = x.0 k; extensions = x.1 k })
      (λ x. (ap (λ v. v.id) x, ap (λ v. v.extensions) x))
      (Decides-and _ _ (ids l.id m.id) (parts l.extensions m.extensions))
