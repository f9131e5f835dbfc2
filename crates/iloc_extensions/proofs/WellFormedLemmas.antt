-- What the tests say of well-formed extensions.
use Rattle.std.proofs.Common.{◌≡◌, ◌≢◌, ◌↔◌, IsTrue, ℕ, zero, suc, ◌+◌, ◌<◌, Bool, true, false, ◌&&◌, List, [], ◌∷◌, length, get_or, nat_lt, refl, sym, subst, ◌∙◌, arith}
use Rattle.std.specs.List.{AllByRecursion, IsAllAdjacentAnswer, list_all}
use Rattle.std.specs.FinMap.{is_sorted}
use Rattle.std.specs.FinMap.Entries.{below_all}
use Rattle.std.specs.Ordering.{nat_cmp}
use Rattle.std.specs.Char.{to_ascii_lowercase}
use Rattle.std.proofs.lemmas.Bool.Decides.{nat_tests}
use Rattle.iloc_spec_grammar.specs.Syntax.{Text, is_true, is_other_singleton}
use Rattle.iloc_spec_grammar.specs.Meaning.{Extensions}
use Rattle.iloc_spec_grammar.specs.Values.{AreWellFormed}
use Rattle.iloc_extensions.specs.WellFormed.{has_own_place, is_in_place, is_plain, is_read_back}
use Rattle.std.proofs.lemmas.Bool.{not-true, and_parts, and_from}
use Rattle.iloc_spec_grammar.proofs.ReadBack.{nat_lt_from, nat_lt_to}

module _ {X : Type 0} (test : X → Bool) (P : X → Type 0) where
  all_shown : ((x : X) → test x ≡ true → P x) → (xs : List X) → list_all test xs ≡ true → AllByRecursion P xs
  all_shown shows [] h = tt
  all_shown shows (x ∷ xs) h = let parts = and_parts _ _ h in (shows x parts.0, all_shown shows xs parts.1)

  all_met : ((x : X) → P x → test x ≡ true) → (xs : List X) → AllByRecursion P xs → list_all test xs ≡ true
  all_met meets [] h = refl
  all_met meets (x ∷ xs) h = and_from _ _ (meets x h.0) (all_met meets xs h.1)

abbrev Others : Type 0
Others = List (ℕ × List Text)

own_singleton : (o : ℕ × List Text) → has_own_place o ≡ true →
    (is_other_singleton o.0 ≡ true) × (to_ascii_lowercase o.0 ≡ o.0) × (0 < length o.1)
own_singleton o h = grind (arith, and_parts)

place_met : (o : ℕ × List Text) → is_other_singleton o.0 ≡ true → to_ascii_lowercase o.0 ≡ o.0 →
    0 < length o.1 → has_own_place o ≡ true
place_met o a b n = grind (arith, and_from)

places_met : (os : Others) →
    AllByRecursion (λ o. (is_other_singleton o.0 ≡ true) × (to_ascii_lowercase o.0 ≡ o.0)) os →
    AllByRecursion (λ o. 0 < length o.1) os → list_all has_own_place os ≡ true
places_met [] s n = refl
places_met (o ∷ os) s n = and_from _ _ (place_met o s.0.0 s.0.1 n.0) (places_met os s.1 n.1)

plain_shown : (w : Text) → is_plain w ≡ true → (is_true w ≡ false) × (length w ≢ 2)
plain_shown w h = grind (arith, and_parts, not-true)

plain_met : (w : Text) → is_true w ≡ false → length w ≢ 2 → is_plain w ≡ true
plain_met w e n = grind (arith, and_from)

abbrev Plain : Text → Type 0
Plain w = (is_true w ≡ false) × (length w ≢ 2)

pub by_tests : (e : Extensions) (b : Bool) → b ≡ (is_in_place e.others && is_read_back e.unicode.keywords) →
    IsTrue b ↔ AreWellFormed e
by_tests e b same = (λ h. shown (sym same ∙ h), λ w. same ∙ met w)
  where
    shown : (is_in_place e.others && is_read_back e.unicode.keywords) ≡ true → AreWellFormed e
    shown h =
        let both = and_parts _ _ h in
        let others = and_parts _ _ both.0 in
        record {
          ascending = others.0;
          singletons =
              all_shown has_own_place (λ o. (is_other_singleton o.0 ≡ true) × (to_ascii_lowercase o.0 ≡ o.0))
              (λ o t. let own = own_singleton o t in (own.0, own.1)) e.others others.1;
          nonempty =
              all_shown has_own_place (λ o. 0 < length o.1) (λ o t. (own_singleton o t).2) e.others others.1;
          values = all_shown (λ f. list_all is_plain f.1) (λ f. AllByRecursion Plain f.1)
              (λ f. all_shown is_plain Plain plain_shown f.1) e.unicode.keywords both.1;
        }

    met : AreWellFormed e → (is_in_place e.others && is_read_back e.unicode.keywords) ≡ true
    met w = and_from _ _ (and_from _ _ w.ascending (places_met e.others w.singletons w.nonempty))
        (all_met (λ f. list_all is_plain f.1) (λ f. AllByRecursion Plain f.1)
        (λ f. all_met is_plain Plain (λ v p. plain_met v p.0 p.1) f.1) e.unicode.keywords w.values)

-- Each is below the next, and so below all that follow.

below_lower : (x y : ℕ) → x < y → (os : Others) → below_all nat_cmp y os ≡ true →
    below_all nat_cmp x os ≡ true
below_lower x y l [] h = refl
below_lower x y l (o ∷ os) h =
    let parts = and_parts _ _ h in
    let above = nat_lt_from y o.0 parts.0 in
    and_from _ _ (nat_lt_to x o.0 (omega arith)) (below_lower x y l os parts.1)

-- each is below the next
abbrev Adjacent : Others → Type 0
Adjacent os =
    (k : ℕ) (d : ℕ × List Text) → k + 1 < length os → (get_or os k d).0 < (get_or os (k + 1) d).0

next_of : (o : ℕ × List Text) (os : Others) (k : ℕ) (d : ℕ × List Text) →
    get_or (o ∷ os) (k + 1) d ≡ get_or os k d
next_of o os k d = grind arith

later : (o : ℕ × List Text) (os : Others) → Adjacent (o ∷ os) → Adjacent os
later o os h k d l = subst (λ x. x.0 < (get_or os (k + 1) d).0) (next_of o os k d) (subst
    (λ x. (get_or (o ∷ os) (k + 1) d).0 < x.0) (next_of o os (k + 1) d) (h (k + 1) d (omega (arith, l))))

ascending : (os : Others) → Adjacent os → is_sorted nat_cmp os ≡ true
ascending [] h = refl
ascending (o ∷ []) h = refl
ascending (o ∷ p ∷ os) h =
    let first : o.0 < p.0 = h 0 o (omega arith) in
    let rest = ascending (p ∷ os) (later o (p ∷ os) h) in
    and_from _ _
    (and_from _ _ (nat_lt_to o.0 p.0 first) (below_lower o.0 p.0 first os (and_parts _ _ rest).0))
    rest

adjacent : (os : Others) → is_sorted nat_cmp os ≡ true → Adjacent os
adjacent [] h k d l = absurd (omega (arith, l))
adjacent (o ∷ []) h k d l = absurd (omega (arith, l))
adjacent (o ∷ p ∷ os) h zero d l = grind (arith, nat_lt_from, and_parts)
adjacent (o ∷ p ∷ os) h (suc k) d l =
    let steps : k + 1 ≡ suc k = omega arith in
    subst (λ n. (get_or (p ∷ os) k d).0 < (get_or (o ∷ p ∷ os) (n + 1) d).0) steps
    (subst (λ x. (get_or (p ∷ os) k d).0 < x.0) (sym (next_of o (p ∷ os) (k + 1) d))
    (adjacent (p ∷ os) (and_parts _ _ h).1 k d (omega (arith, l))))

pub ascends : (os : Others) (r : Bool) → IsAllAdjacentAnswer (λ x y b. b ≡ nat_lt x.0 y.0) os r →
    r ≡ is_sorted nat_cmp os
ascends os true h = grind (arith, ascending)
ascends os false h = go (is_sorted nat_cmp os) refl
  where
    not_below : {x y : ℕ} → false ≡ nat_lt x y → x < y → ⊥
    not_below e l = grind (arith, nat_tests)

    go : (b : Bool) → is_sorted nat_cmp os ≡ b → false ≡ b
    go true e = absurd (not_below (h.2 (0, [])) (adjacent os e h.0 (0, []) h.1))
    go false e = refl
