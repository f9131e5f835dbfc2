-- The fallback chain of locales, from that of identifiers.
use Rattle.std.proofs.Common.{◌≡◌, ◌≢◌, ◌↔◌, inl, inr, ℕ, zero, suc, Option, Some, None, refl, sym, ap, ◌∙◌, subst}
use Rattle.std.specs.Prelude.{option_map, option_and_then}
use Rattle.iloc_spec_grammar.specs.Syntax.{Identifier}
use Rattle.iloc_spec_grammar.specs.Meaning.{Locale, no_extensions, without_extensions}
use Rattle.iloc_langid.specs.Unknown.{unknown_identifier}
use Rattle.iloc_langid.specs.Parents.{parent_of, part_count, after_steps}
use Rattle.iloc_langid.proofs.ParentLemmas.{chain_ends, of_some}
use Rattle.iloc_locale.specs.LocaleReading.{unknown_locale}
use Rattle.iloc_locale.specs.LocaleParents.{IsParent, StepsTo}

none_is_not_some : {X : Type 0} {x : X} → None ≡ Some x → ⊥
none_is_not_some e = cc

-- what the later steps lead to, once the first is known
later : (n : ℕ) (i u : Identifier) (o : Option Identifier) → parent_of i ≡ o →
    after_steps parent_of (suc n) i ≡ Some u → option_and_then (after_steps parent_of n) o ≡ Some u
later n i u o h e = sym (ap (option_and_then (after_steps parent_of n)) h) ∙ e

-- the first step leads to the parent, if what comes after it leads on
goes_on : (n : ℕ) (i u : Identifier) → after_steps parent_of (suc n) i ≡ Some u →
    ((p : Identifier) → after_steps parent_of n p ≡ Some u
    → StepsTo n (without_extensions p) (without_extensions u)) →
    (o : Option Identifier) → parent_of i ≡ o → StepsTo (suc n) (without_extensions i) (without_extensions u)
goes_on n i u e next None h = absurd (none_is_not_some (later n i u None h e))
goes_on n i u e next (Some p) h = (
  without_extensions p,
  inr (refl, sym (ap (option_map without_extensions) h)),
  next p (later n i u (Some p) h e),
)

chain : (n : ℕ) (i u : Identifier) → after_steps parent_of n i ≡ Some u →
    StepsTo n (without_extensions i) (without_extensions u)
chain zero i u e = ap without_extensions (of_some e)
chain (suc n) i u e = goes_on n i u e (λ p. chain n p u) (parent_of i) refl

ends : (i : Identifier) → StepsTo (part_count i) (without_extensions i) unknown_locale
ends i = chain (part_count i) i unknown_identifier (chain_ends (part_count i) i refl)

is_plain : (M : Locale) → M.extensions ≡ no_extensions → M ≡ without_extensions M.id
is_plain M h = ap (λ e. record { id = M.id; extensions = e }) h

pub plain_ends : (M : Locale) → M.extensions ≡ no_extensions → StepsTo (part_count M.id) M unknown_locale
plain_ends M h =
    let P : Locale → Type 0 = λ L. StepsTo (part_count M.id) L unknown_locale in
    subst P (sym (is_plain M h)) (ends M.id)

pub extended_ends : (M : Locale) → M.extensions ≢ no_extensions →
    StepsTo (suc (part_count M.id)) M unknown_locale
extended_ends M h = (without_extensions M.id, inl (h, refl), ends M.id)

last_step : (n : ℕ) (i : Identifier) → after_steps parent_of n i ≡ Some unknown_identifier →
    parent_of i ≡ None → i ≡ unknown_identifier
last_step zero i e h = of_some e
last_step (suc n) i e h = absurd (none_is_not_some (later n i unknown_identifier None h e))

no_more : (i : Identifier) (o : Option Identifier) → parent_of i ≡ o →
    None ≡ option_map without_extensions o → parent_of i ≡ None
no_more i None h e = h
no_more i (Some p) h e = absurd (none_is_not_some e)

has_none : (M : Locale) → IsParent M None → M ≡ unknown_locale
has_none M p =
    elim p [
      | inl a ↦ absurd (none_is_not_some a.1)
      | inr b ↦ is_plain M b.0 ∙ ap without_extensions (last_step (part_count M.id) M.id
          (chain_ends (part_count M.id) M.id refl) (no_more M.id (parent_of M.id) refl b.1))
    ]

pub only_und : (M : Locale) → IsParent M None ↔ (M ≡ unknown_locale)
only_und M =
    let P : Locale → Type 0 = λ L. IsParent L None in
    (has_none M, λ e. subst P (sym e) (inr (refl, refl)))
