-- What the laws of the grammar say together.
use Rattle.std.proofs.Common.{◌≡◌, ◌⊎◌, inl, inr}
use Rattle.icu_locale_core.specs.Syntax.{Text, languages}
use Rattle.icu_locale_core.specs.Meaning.{Locale, Means, Fault, HasFault}
use Rattle.example_recipes.specs.Judged.{HasOneMeaning, HasOneFault}

-- the laws, for the languages of this library
pub record Laws : Type 0 where
  pub either : (t : Text) → ((M : Locale) × Means languages t M) ⊎ ((f : Fault) × HasFault languages t f)
  pub apart : (t : Text) (M : Locale) (f : Fault) → Means languages t M → HasFault languages t f → ⊥
  pub one_meaning : (t : Text) (L M : Locale) → Means languages t L → Means languages t M → L ≡ M
  pub one_fault : (t : Text) (f g : Fault) → HasFault languages t f → HasFault languages t g → f ≡ g

pub judged : Laws → (t : Text) → HasOneMeaning t ⊎ HasOneFault t
judged laws t = elim (laws.either t) [
  | inl (M, m) ↦ inl (record {
    meaning = M;
    means = m;
    only = λ L l. laws.one_meaning t L M l m;
    no_fault = λ f h. laws.apart t M f m h;
  })
  | inr (f, h) ↦ inr (record {
    fault = f;
    has = h;
    only = λ g i. laws.one_fault t g f i h;
    no_meaning = λ M m. laws.apart t M f m h;
  })
]

-- what means something is of the first kind
pub accepted : ((t : Text) → HasOneMeaning t ⊎ HasOneFault t) → (t : Text)
    → ((M : Locale) × Means languages t M) → HasOneMeaning t
accepted each t means =
    elim (each t) [ inl one ↦ one | inr fault ↦ absurd (fault.no_meaning means.0 means.1) ]

-- and what means nothing of the second
pub refused : ((t : Text) → HasOneMeaning t ⊎ HasOneFault t) → (t : Text)
    → ¬ ((M : Locale) × Means languages t M) → HasOneFault t
refused each t none = elim (each t) [ inl one ↦ absurd (none (one.meaning, one.means)) | inr fault ↦ fault ]
