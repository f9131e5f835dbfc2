-- What a text is, as a program may rely on it: a locale in one way, or faulty in one way.
use Rattle.std.specs.Prelude.{◌≡◌}
use Rattle.icu_locale_core.specs.Syntax.{Text, languages}
use Rattle.icu_locale_core.specs.Meaning.{Locale, Means, Fault, HasFault}

-- The text means one locale, and has no fault.
pub record HasOneMeaning (t : Text) : Type 0 where
  pub meaning : Locale
  pub means : Means languages t meaning
  pub only : (M : Locale) → Means languages t M → M ≡ meaning
  pub no_fault : (f : Fault) → ¬ (HasFault languages t f)

-- The text has one fault, and means no locale.
pub record HasOneFault (t : Text) : Type 0 where
  pub fault : Fault
  pub has : HasFault languages t fault
  pub only : (f : Fault) → HasFault languages t f → f ≡ fault
  pub no_meaning : (M : Locale) → ¬ (Means languages t M)
