-- From what is read to whether it is a subtag.
use Rattle.iloc_word_list.proofs.CollectorLaws.{ascending}
use Rattle.std.proofs.Common.{◌≡◌, ◌↔◌, ℕ, ◌<◌, List, Bool, true, false, IsTrue, Result, length, remove, refl, sym, ap, subst, ◌∙◌, true≢false}
use Rattle.std.specs.Prelude.{MatchResult, not, filter, is_some}
use Rattle.std.specs.List.{list_any, HoldsAt}
use Rattle.std.specs.declared.cmp.Ordering.TheVariants.{Equal}
use Rattle.std.specs.FinMap.{find}
use Rattle.iloc_spec_grammar.specs.Syntax.{Text, Kind, IsWord, is_word, is_same, normal, read, word_cmp}
use Rattle.iloc_spec_grammar.specs.Values.{StrictlyAscends}
use Rattle.iloc_word_list.specs.Ascending.{ascends}
use Rattle.iloc_word_list.proofs.SetLaws.{kept_all, search_old, search_removed, ascending-filter}
use Rattle.iloc_subtags.specs.declared.parse_error.ParseError.{ParseError}
use Rattle.iloc_handles.specs.Subtags.{HasWord, without_word}
use Rattle.iloc_handles.specs.Pairs.{HasKey}

-- what reading a text as a subtag answers, by the answer
abbrev pub ReadWord : Kind → ParseError → Text → Result Text ParseError → Type 0
ReadWord k refusal t r =
    MatchResult r (λ w. IsWord k t × (w ≡ normal k t)) (λ e. (is_word k t ≡ false) × (e ≡ refusal))

pub read_word : (k : Kind) (refusal : ParseError) (t : Text) (r : Result Text ParseError)
    → r ≡ read k refusal t → ReadWord k refusal t r
read_word k refusal t r is = subst (ReadWord k refusal t) (sym is) (by_test (is_word k t) refl)
  where
    by_test : (b : Bool) → is_word k t ≡ b → ReadWord k refusal t (read k refusal t)
    by_test true h = rw h (refl, refl)
    by_test false h = rw h (refl, refl)

-- a subtag is among others exactly if its text is
pub has_exactly : (k : Kind) (t w : Text) (ws : List Text) (b : Bool) → IsWord k t → w ≡ normal k t
    → b ≡ list_any (is_same w) ws → IsTrue b ↔ HasWord k t ws
has_exactly k t w ws b is e h =
    let Among : Text → Type 0 = λ v. list_any (is_same v) ws ≡ true in
    (λ s. (is, subst Among e (sym h ∙ s)), λ p. h ∙ subst Among (sym e) p.1)

-- without a subtag that is not there, all stay
pub absent_stays : (k : Kind) (t w : Text) (ws after : List Text) → w ≡ normal k t →
    false ≡ list_any (is_same w) ws
    → after ≡ filter (λ v. not (is_same w v)) ws → (HasWord k t ws → ⊥) × (after ≡ ws)
absent_stays k t w ws after e h is =
    let Among : Text → Type 0 = λ v. list_any (is_same v) ws ≡ true in
    (λ p. true≢false (sym (subst Among (sym e) p.1) ∙ sym h), is ∙ kept_all w ws (sym h))

-- a key that is not found is not there
pub absent_key : {V : Type 0} (k : Kind) (t w : Text) (ks : List (Text × V)) → w ≡ normal k t
    → false ≡ is_some (find word_cmp w ks) → HasKey k t ks → ⊥
absent_key k t w ks e h p =
    let There : Text → Type 0 = λ v. is_some (find word_cmp v ks) ≡ true in
    true≢false (sym (subst There (sym e) p.1) ∙ sym h)

-- what is left of a set passes the test for one
pub removed_ascends : (x : Text) (ws : List Text) (i : ℕ) → StrictlyAscends word_cmp ws → i < length ws
    → HoldsAt (λ y. word_cmp y x ≡ Equal) ws i → ascends word_cmp (remove ws i) ≡ true
removed_ascends x ws i h l at =
    let p : Text → Bool = λ w. not (is_same x w) in
    subst (λ vs. ascends word_cmp vs ≡ true) (sym (search_removed ws ws x i refl h l at))
    (ascending (filter p ws) (ascending-filter p ws h))

-- a subtag that is not found is not there
pub absent_word : (k : Kind) (t w : Text) (ws : List Text) → w ≡ normal k t →
    list_any (is_same w) ws ≡ false
    → HasWord k t ws → ⊥
absent_word k t w ws e h p = true≢false (sym (subst (λ v. list_any (is_same v) ws ≡ true) (sym e) p.1) ∙ h)

-- what a binary search found was there, and without it all others are left
pub removed_word : (k : Kind) (t w : Text) (slice ws kept : List Text) (i : ℕ) → w ≡ normal k t →
    slice ≡ ws
    → StrictlyAscends word_cmp ws → i < length slice → HoldsAt (λ y. word_cmp y w ≡ Equal) slice i →
    kept ≡ remove slice i
    → (list_any (is_same (normal k t)) ws ≡ true) × (kept ≡ without_word k t ws)
removed_word k t w slice ws kept i e same asc bound at is = (
  subst (λ v. list_any (is_same v) ws ≡ true) e (search_old slice ws w i same asc bound at).present,
  is ∙ ap (λ vs. remove vs i) same ∙ search_removed slice ws w i same asc bound at
      ∙ ap (λ v. filter (λ u. not (is_same v u)) ws) e,
)
