-- The answers of the plain programs are the meaning and the fault of a text.
use Rattle.std.proofs.Common.{◌≡◌, ℕ, Bool, ap, subst, Result, Ok, Err, MatchResult, ◌↔◌}
use Rattle.iloc_spec_grammar.specs.Syntax.{LanguageLengths, Text, pieces, AreLengths, Identifier}
use Rattle.iloc_spec_grammar.specs.Meaning.{Locale, Means, IdentifierMeans, Fault, HasFault, HasIdentifierFault}
use Rattle.iloc_spec_grammar.specs.Tree.{TreeMeans}
use Rattle.iloc_spec_grammar.specs.Computing.{identifier_result, locale_result}
use Rattle.iloc_spec_grammar.proofs.PiecesLaws.{at_pieces}
use Rattle.iloc_spec_grammar.proofs.IdentifierLaws.{one_meaning}
use Rattle.iloc_spec_grammar.proofs.SameMeaning.{tree_means, means_by_tree}
use Rattle.iloc_spec_grammar.proofs.SameFaults.{answered, means_answered, fault_answered}
use Rattle.iloc_spec_grammar.proofs.IdentifierTexts.{IdentifierAnswers, identifier_answers, identifier_apart, one_identifier_fault}

abbrev Answers : (ℕ → Bool) → Text → Result Locale Fault → Type 0
Answers T t r = MatchResult r (Means T t) (HasFault T t)

pub locale_answers : (T : LanguageLengths) → AreLengths T → (t : Text) →
    MatchResult (locale_result T t) (Means T t) (HasFault T t)
locale_answers T table t = answered T t

pub computed_means : (T : LanguageLengths) → AreLengths T → (t : Text) (M : Locale) →
    (locale_result T t ≡ Ok M) ↔ Means T t M
computed_means T table t M = (λ e. subst (Answers T t) e (answered T t), λ m. means_answered table t M m)

pub computed_fault : (T : LanguageLengths) → AreLengths T → (t : Text) (f : Fault) →
    (locale_result T t ≡ Err f) ↔ HasFault T t f
computed_fault T table t f = (λ e. subst (Answers T t) e (answered T t), λ h. fault_answered T t h)

pub computed_tree : (T : LanguageLengths) → AreLengths T → (t : Text) (M : Locale) →
    (locale_result T t ≡ Ok M) ↔ TreeMeans T t M
computed_tree T table t M = (
  λ e. tree_means t M ((computed_means T table t M).0 e),
  λ m. (computed_means T table t M).1 (means_by_tree table t M m),
)

-- identifiers

pub text_identifier_answers : (T : LanguageLengths) (t : Text) →
    IdentifierAnswers T (pieces t) (identifier_result T (pieces t))
text_identifier_answers T t =
    at_pieces (λ ps. IdentifierAnswers T ps (identifier_result T ps)) (identifier_answers T) t

pub computed_identifier : (T : LanguageLengths) (t : Text) (i : Identifier) →
    (identifier_result T (pieces t) ≡ Ok i) ↔ IdentifierMeans T (pieces t) i
computed_identifier T t i = (
  λ e. subst (IdentifierAnswers T (pieces t)) e (text_identifier_answers T t),
  λ m. at_result (identifier_result T (pieces t)) (text_identifier_answers T t) m,
)
  where
    at_result : (r : Result Identifier Fault) → IdentifierAnswers T (pieces t) r →
        IdentifierMeans T (pieces t) i → r ≡ Ok i
    at_result (Ok j) a m = ap Ok (one_meaning (pieces t) j i a m)
    at_result (Err f) a m = absurd (identifier_apart (pieces t) i f m a)

pub computed_identifier_fault : (T : LanguageLengths) (t : Text) (f : Fault) →
    (identifier_result T (pieces t) ≡ Err f) ↔ HasIdentifierFault T (pieces t) f
computed_identifier_fault T t f = (
  λ e. subst (IdentifierAnswers T (pieces t)) e (text_identifier_answers T t),
  λ h. at_result (identifier_result T (pieces t)) (text_identifier_answers T t) h,
)
  where
    at_result : (r : Result Identifier Fault) → IdentifierAnswers T (pieces t) r →
        HasIdentifierFault T (pieces t) f → r ≡ Err f
    at_result (Ok j) a h = absurd (identifier_apart (pieces t) j f a h)
    at_result (Err g) a h = ap Err (one_identifier_fault (pieces t) a h)
