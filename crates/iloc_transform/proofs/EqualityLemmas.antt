-- `==` at identifiers and transforms decides whether they stand for the same.
use Rattle.std.proofs.Common.{◌≡◌, Bool, ◌&&◌, Option, Some, None, nat_eq, refl, sym, ap, option_map, true≢false}
use Rattle.std.specs.Option.{option_eq}
use Rattle.std.specs.Bool.{Decides}
use Rattle.std.proofs.lemmas.Bool.Decides.{Decides-and, Decides-like}
use lib.Pointwise.{pointwise}
use Rattle.iloc_spec_grammar.specs.Syntax as written
use Rattle.iloc_langid.specs.Reads as langid
use Rattle.iloc_langid.specs.declared.identifier.LanguageIdentifier.{LanguageIdentifier}
use Rattle.iloc_langid.proofs.EqualityLemmas.{same_value, equal_values}
use Rattle.iloc_transform.specs.TransformReading.{value_of}
use Rattle.iloc_transform.specs.declared.transform.Transform.{Transform}

-- transforms, field by field: identifiers by what is proved of them below

option_decides : {X V : Type 0} (E : X → X → Bool) (f : X → V) → ((x y : X) → Decides (E x y) (f x ≡ f y)) →
    (o q : Option X) → Decides (option_eq E o q) (option_map f o ≡ option_map f q)
option_decides E f each None None = (λ h. refl, λ e. refl)
option_decides E f each None (Some y) = (λ h. absurd (true≢false (sym h)), λ e. cc)
option_decides E f each (Some x) None = (λ h. absurd (true≢false (sym h)), λ e. cc)
option_decides E f each (Some x) (Some y) = ((λ h. ap Some ((each x y).0 h)), (λ e. (each x y).1 (inside e)))
  where
    inside : Some (f x) ≡ Some (f y) → f x ≡ f y
    inside e = cc

pub identifier_decides : (i j : LanguageIdentifier) →
    Decides
    (pointwise nat_eq i.language j.language
    && (option_eq (pointwise nat_eq) i.script j.script
    && (option_eq (pointwise nat_eq) i.region j.region
    && pointwise (pointwise nat_eq) i.variants j.variants))) (langid.value_of i ≡ langid.value_of j)
identifier_decides i j = (same_value i j, equal_values i j)

module _ (E : LanguageIdentifier → LanguageIdentifier → Bool)
    (F : written.Fields → written.Fields → Bool) where
  pub transform_decides : ((i j : LanguageIdentifier) →
      Decides (E i j) (langid.value_of i ≡ langid.value_of j)) →
      ((f g : written.Fields) → Decides (F f g) (f ≡ g)) → (m n : Transform) →
      Decides (option_eq E m.lang n.lang && F m.fields n.fields) (value_of m ≡ value_of n)
  transform_decides ids fields m n = Decides-like _
      (λ e k. record { id = e.0 k; fields = e.1 k })
      (λ e. (ap (λ v. v.id) e, ap (λ v. v.fields) e))
      (Decides-and _ _ (option_decides E langid.value_of ids m.lang n.lang) (fields m.fields n.fields))
