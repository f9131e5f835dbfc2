-- From the locale that was read to its normal text.
use Rattle.std.proofs.Common.{◌≡◌, inl, inr, ◌↔◌, IsTrue, ◌≤◌, Bool, true, false, length, refl, sym, ap, ◌∙◌, subst, true≢false, IfOk, Err, Ok, Result}
use Rattle.iloc_spec_grammar.specs.Syntax.{Text, languages, is_same}
use Rattle.iloc_spec_grammar.specs.Meaning as meaning
use Rattle.iloc_spec_grammar.specs.Meaning.{Means}
use Rattle.iloc_spec_grammar.specs.Values.{IsWellFormed, text}
use Rattle.iloc_spec_grammar.proofs.MapLaws.{same_is, same_itself}
use Rattle.iloc_spec_grammar.proofs.SameMeaning.{one_meaning}
use Rattle.iloc_spec_grammar.proofs.SameFaults.{accepted_no_fault}
use Rattle.std.specs.Ordering.{is_eq}
use Rattle.iloc_spec_parts.specs.Orders.{locale_cmp}
use Rattle.iloc_spec_parts.proofs.OrderLaws.{locale_exact}
use Rattle.iloc_spec_grammar.proofs.RawLaws.{languages_table}
use Rattle.iloc_spec_grammar.proofs.Corollaries.{same_meaning, means_again, same_text_same_value}
use Rattle.iloc_spec_grammar.proofs.AnySteps.{chain_to_text, shortest, texts_lead_to_one}
use Rattle.iloc_subtags.specs.declared.parse_error.ParseError.{ParseError}
use Rattle.iloc_subtags.specs.declared.parse_error.ParseError.TheVariants.{InvalidLanguage, InvalidSubtag, InvalidExtension, DuplicatedExtension, OutOfMemory}
use Rattle.iloc_normalize.specs.Modes.{IsNormalText}
use Rattle.iloc_normalize.specs.NormalTexts.{IsNotNormal}
use Rattle.iloc_normalize.specs.Answered.{HasRefusal}
use Rattle.iloc_normalize.specs.declared.Mode.TheVariants.{Locale}
use Rattle.iloc_locale.specs.LocaleReading.{LocaleTextReads, MeansOnly, IsTextOf, IsNormalizedLocale, NormalizingWantsMemory}
use Rattle.iloc_locale.proofs.ReadLemmas.{inline_wants_none}
use Rattle.iloc_spec_parts.specs.Inline.{IsInline}
use Rattle.std.specs.Cmp.{Equal-is}

pub is_normalized : (t u : Text) (M : meaning.Locale) → Means languages t M → u ≡ text M →
    IsNormalizedLocale t u
is_normalized t u M m e = subst (IsNormalizedLocale t) (sym e) (record {
  text_is = (M, m, refl);
  again = (M, means_again languages_table t M m, refl);
  same = λ v L N l n. subst (λ (K : meaning.Locale). (L ≡ N) ↔ (text K ≡ text N))
      (one_meaning languages_table t L M l m) (same_meaning languages languages_table t v L N l n);
  shortest = λ v N l n. subst (λ (K : meaning.Locale). length (text K) ≤ length v)
      (one_meaning languages_table t N M l m) (shortest languages v N n);
  steps = chain_to_text languages t M m;
  together = λ v L N l n. texts_lead_to_one languages languages_table t v L N l n;
})

pub refuses_memory : (t : Text) (M : meaning.Locale) → Means languages t M → (t ≡ text M → false ≡ true) →
    NormalizingWantsMemory t
refuses_memory t M m other = inr (M, m, λ e. absurd (true≢false (sym (other e))))

-- a normal text that is inline wants no memory
pub normal_inline : (t : Text) → IsInline languages t → IsTextOf t t → NormalizingWantsMemory t → ⊥
normal_inline t i n (inl h) = inline_wants_none t i h
normal_inline t i n (inr h) = h.2 (n.2 ∙ ap text (one_meaning languages_table t n.0 h.0 n.1 h.1))

pub same_meaning_ties : (t : Text) (L M : meaning.Locale) (same : Bool) → Means languages t L →
    same ≡ is_eq (locale_cmp M L) → IsTrue same ↔ Means languages t M
same_meaning_ties t L M same m e = (
  λ s. subst (Means languages t)
      (sym ((locale_exact.exact M L).0 ((Equal-is (locale_cmp M L)).0 (sym e ∙ s)))) m,
  λ n. e ∙ ap is_eq ((locale_exact.exact M L).1 (one_meaning languages_table t M L n m)),
)

pub no_meaning : (t : Text) (M : meaning.Locale) (f : ParseError) → LocaleTextReads t (Err f) →
    (f ≡ OutOfMemory → ⊥) → Means languages t M → ⊥
no_meaning t M InvalidLanguage h n m = accepted_no_fault languages_table t M meaning.InvalidLanguage m h
no_meaning t M InvalidSubtag h n m = accepted_no_fault languages_table t M meaning.InvalidSubtag m h
no_meaning t M InvalidExtension h n m = accepted_no_fault languages_table t M meaning.InvalidExtension m h
no_meaning t M DuplicatedExtension h n m =
    accepted_no_fault languages_table t M meaning.DuplicatedExtension m h
no_meaning t M OutOfMemory h n m = n refl

pub refusal_differs : (t : Text) (M : meaning.Locale) (f : ParseError) {E : Type 0} (r : Result Bool E) →
    LocaleTextReads t (Err f) → IfOk r (λ same. (same ≡ false) × ¬ (f ≡ OutOfMemory)) →
    IfOk r (λ same. IsTrue same ↔ Means languages t M)
refusal_differs t M f (Ok same) h d =
    (λ s. absurd (true≢false (sym s ∙ d.0)), λ m. absurd (no_meaning t M f h d.1 m))
refusal_differs t M f (Err e) h d = tt

-- the text of a well-formed value means that value, and no other
pub text_means_only : (M : meaning.Locale) → IsWellFormed M → MeansOnly (text M) M
text_means_only M w = (w, λ N n. one_meaning languages_table (text M) N M n w)

-- what is answered without a value is normalized so
pub answered_text : (t u : Text) → IsNormalText languages Locale t u → IsNormalizedLocale t u
answered_text t u (M, m, e) = is_normalized t u M m e

pub answered_other : (t : Text) → IsNotNormal Locale t → NormalizingWantsMemory t
answered_other t (u, (M, m, e), other) = inr (M, m, λ s. other (s ∙ sym e))

-- no text that means something is shorter than its normal text
pub normal_within : (t u : Text) → IsNormalText languages Locale t u → length u ≤ length t
normal_within t u (M, m, e) = subst (λ (s : Text). length s ≤ length t) (sym e) (shortest languages t M m)

-- A text against a value.
module _ (t : Text) (M : meaning.Locale) where
  -- the normal text of a text that means it is its own
  pub other_text_differs : (u : Text) → false ≡ is_same (text M) u → IsNormalText languages Locale t u
      → Means languages t M → ⊥
  other_text_differs u e (N, m, is) n =
      let own : text M ≡ u = ap text (one_meaning languages_table t M N n m) ∙ sym is in
      true≢false (sym (same_itself (text M)) ∙ ap (is_same (text M)) own ∙ sym e)

  -- and of a well-formed value, each text with that normal text means it
  module _ (w : IsWellFormed M) where
    pub own_text_means : true ≡ is_same (text M) t → Means languages t M
    own_text_means e = subst (λ u. Means languages u M) (same_is (text M) t (sym e)) w

    pub normal_text_means : (u : Text) → true ≡ is_same (text M) u → IsNormalText languages Locale t u
        → Means languages t M
    normal_text_means u e (N, m, is) =
        let alike : text N ≡ text M = sym is ∙ sym (same_is (text M) u (sym e)) in
        let well : IsWellFormed N = means_again languages_table t N m in
        subst (Means languages t) (same_text_same_value N M well w alike) m

-- a text that has a fault means nothing
pub faulty_differs : (t : Text) (M : meaning.Locale) (f : ParseError) → HasRefusal Locale t f
    → Means languages t M → ⊥
faulty_differs t M InvalidLanguage h m = no_meaning t M InvalidLanguage h (λ e. cc) m
faulty_differs t M InvalidSubtag h m = no_meaning t M InvalidSubtag h (λ e. cc) m
faulty_differs t M InvalidExtension h m = no_meaning t M InvalidExtension h (λ e. cc) m
faulty_differs t M DuplicatedExtension h m = no_meaning t M DuplicatedExtension h (λ e. cc) m
faulty_differs t M OutOfMemory h m = h
