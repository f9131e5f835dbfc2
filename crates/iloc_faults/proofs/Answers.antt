-- The outcome, found piece by piece, says whether a text is accepted, and the fault of an identifier or a
-- locale.
use Rattle.std.proofs.Common.{◌≡◌, ◌≢◌, true, List, ◌∷◌, Option, Some, None, Result, Ok, Err, MatchResult, refl, sym, ap, ◌∙◌, subst, true≢false, ◌↔◌, arith}
use Rattle.iloc_spec_grammar.specs.Syntax.{Text, languages, pieces, Identifier}
use Rattle.iloc_spec_grammar.specs.Meaning.{Fault, Means, IdentifierMeans, HasFault, HasIdentifierFault}
use Rattle.iloc_spec_grammar.specs.Computing.{identifier_result, locale_result}
use Rattle.iloc_spec_grammar.proofs.RawLaws.{languages_table}
use Rattle.iloc_spec_grammar.proofs.PiecesLaws.{at_pieces}
use Rattle.iloc_spec_grammar.proofs.ComputingLaws.{locale_answers, computed_means, computed_identifier, text_identifier_answers}
use Rattle.iloc_spec_parts.specs.SmallComputing.{small_result}
use Rattle.iloc_spec_parts.specs.DataLocales.{DataMeans, HasDataFault}
use Rattle.iloc_spec_parts.specs.DataComputing.{data_result}
use Rattle.iloc_spec_parts.proofs.DataLaws.{data_answer, data_apart}
use Rattle.iloc_normalize.specs.Modes.{IsFaulty}
use Rattle.iloc_normalize.specs.declared.Mode.{Mode}
use Rattle.iloc_normalize.specs.declared.Mode.TheVariants.{Langid, Locale, Data}
use Rattle.iloc_faults.specs.Next.{started, outcome}
use Rattle.iloc_faults.specs.Places.{IsAccepted}
use Rattle.iloc_faults.proofs.Locales.{locale_fault, locale_verdict}
use Rattle.iloc_faults.proofs.Identifiers.{identifier_verdict}
use Rattle.iloc_faults.proofs.DataSteps.{fine, is_ok, data_verdict, data_ok}

-- the fault of a result, if it is one
abbrev pub fault_in : {X : Type 0} → Result X Fault → Option Fault
fault_in (Ok x) = None
fault_in (Err f) = Some f

-- ---- the outcome is the answer of the plain programs

langid_verdict : (p : Text) (ps : List Text) →
    outcome Langid started (p ∷ ps) ≡ fault_in (identifier_result languages (p ∷ ps))
langid_verdict p ps = grind (arith, identifier_verdict)

locale_of : (t p : Text) (ps : List Text) → pieces t ≡ p ∷ ps →
    locale_fault p ps ≡ fault_in (locale_result languages t)
unfolding locale_result
locale_of t p ps e = grind arith

-- the pieces are one or more
some_pieces : (t : Text) → (p : Text) × (ps : List Text) × (pieces t ≡ p ∷ ps)
some_pieces t = at_pieces (λ qs. (p : Text) × (ps : List Text) × (qs ≡ p ∷ ps)) (λ p ps. (p, ps, refl)) t

pub identifier_answer : (t : Text) →
    outcome Langid started (pieces t) ≡ fault_in (identifier_result languages (pieces t))
identifier_answer t =
    at_pieces (λ ps. outcome Langid started ps ≡ fault_in (identifier_result languages ps)) langid_verdict t

pub locale_answer : (t : Text) → outcome Locale started (pieces t) ≡ fault_in (locale_result languages t)
locale_answer t = let s = some_pieces t in
    ap (outcome Locale started) s.2 ∙ locale_verdict s.0 s.1 ∙ locale_of t s.0 s.1 s.2

pub data_fine : (t : Text) → fine (outcome Data started (pieces t)) ≡ is_ok (data_result languages t)
unfolding data_result small_result
data_fine t = let s = some_pieces t in grind (arith, fine, data_verdict, data_ok, is_ok)

-- ---- so it is that of the definitions

-- a text is accepted exactly if its outcome is none
pub accepted_is : (mode : Mode) (t : Text) →
    IsAccepted mode t ↔ (fine (outcome mode started (pieces t)) ≡ true)
accepted_is Langid t = (
  λ m. ap fine (identifier_answer t ∙ ap fault_in ((computed_identifier languages t m.0).1 m.1)),
  λ e. by (identifier_result languages (pieces t)) (text_identifier_answers languages t)
      (sym (ap fine (identifier_answer t)) ∙ e),
)
  where
    by : (r : Result Identifier Fault) →
        MatchResult r (IdentifierMeans languages (pieces t)) (HasIdentifierFault languages (pieces t)) →
        fine (fault_in r) ≡ true → IsAccepted Langid t
    by (Ok i) m e = (i, m)
    by (Err f) m e = absurd (true≢false (sym e))
accepted_is Locale t = (
  λ m. ap fine (locale_answer t ∙ ap fault_in ((computed_means languages languages_table t m.0).1 m.1)),
  λ e. by (locale_result languages t) (locale_answers languages languages_table t)
      (sym (ap fine (locale_answer t)) ∙ e),
)
  where
    by : (r : Result _ Fault) → MatchResult r (Means languages t) (HasFault languages t) →
        fine (fault_in r) ≡ true → IsAccepted Locale t
    by (Ok i) m e = (i, m)
    by (Err f) m e = absurd (true≢false (sym e))
accepted_is Data t = (
  λ m. data_fine t ∙ meant (data_result languages t) (data_answer languages_table t) m,
  λ e. by (data_result languages t) (data_answer languages_table t) (sym (data_fine t) ∙ e),
)
  where
    meant : (r : Result _ Fault) → MatchResult r (DataMeans languages t) (HasDataFault languages t) →
        IsAccepted Data t → is_ok r ≡ true
    meant (Ok d) h m = refl
    meant (Err f) h m = absurd (data_apart languages_table t m.0 f m.1 h)

    by : (r : Result _ Fault) → MatchResult r (DataMeans languages t) (HasDataFault languages t) →
        is_ok r ≡ true → IsAccepted Data t
    by (Ok d) h e = (d, h)
    by (Err f) h e = absurd (true≢false (sym e))

-- the fault of a text as an identifier or a locale
pub faulty_is : (mode : Mode) (t : Text) (f : Fault) → mode ≢ Data →
    outcome mode started (pieces t) ≡ Some f → IsFaulty languages mode t f
faulty_is Langid t f n e = by (identifier_result languages (pieces t)) (text_identifier_answers languages t)
    (sym (identifier_answer t) ∙ e)
  where
    by : (r : Result Identifier Fault) →
        MatchResult r (IdentifierMeans languages (pieces t)) (HasIdentifierFault languages (pieces t)) →
        fault_in r ≡ Some f → HasIdentifierFault languages (pieces t) f
    by (Ok i) m e = cc
    by (Err g) m e = let same : g ≡ f = cc in subst (HasIdentifierFault languages (pieces t)) same m
faulty_is Locale t f n e =
    by (locale_result languages t) (locale_answers languages languages_table t) (sym (locale_answer t) ∙ e)
  where
    by : (r : Result _ Fault) → MatchResult r (Means languages t) (HasFault languages t) →
        fault_in r ≡ Some f → HasFault languages t f
    by (Ok i) m e = cc
    by (Err g) m e = let same : g ≡ f = cc in subst (HasFault languages t) same m
faulty_is Data t f n e = absurd (n refl)
