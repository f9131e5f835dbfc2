-- Texts of identifiers: reading them back, the two steps between texts of one meaning, and faults.
use Rattle.std.proofs.Common.{◌≡◌, ◌⊎◌, ℕ, ◌+◌, Bool, true, false, cond, not, List, ◌∷◌, length, refl, sym, ap, ◌∙◌, arith, ◌↔◌, true≢false, Result, Ok, Err, MatchResult}
use Rattle.iloc_spec_grammar.specs.Syntax.{LanguageLengths, Text, pieces, join, Language, is_word, lower, Stage, IdentifierOf, SpelledIdentifier, Identifier, identifier_pieces, HasWords, head, front}
use Rattle.iloc_spec_grammar.specs.Meaning.{normal_identifier, IdentifierMeans, Fault, InvalidLanguage, InvalidSubtag, HasIdentifierFault, not_a_language, not_an_identifier}
use Rattle.iloc_spec_grammar.specs.Values.{IsIdentifierValue, lower_identifier, identifier_text}
use Rattle.iloc_spec_grammar.specs.Tree.{spelled_identifier}
use Rattle.iloc_spec_grammar.specs.TreeSteps.{TreeIdentifierTextStep}
use Rattle.iloc_spec_grammar.proofs.WordsLaws.{length-lower}
use Rattle.iloc_spec_grammar.proofs.PiecesLaws.{pieces-join, join-pieces, at_pieces}
use Rattle.iloc_spec_grammar.proofs.IdentifierLaws.{pieces-identifier_of, identifier_of-pieces, one_identifier, one_meaning}
use Rattle.iloc_spec_grammar.specs.Reading.{identifier_of}
use Rattle.iloc_spec_grammar.proofs.ValuesLaws.{identifier_reads_back, normal-lower_identifier, value_words}
use Rattle.iloc_spec_grammar.proofs.WellRead.{identifier_value}
use Rattle.iloc_spec_grammar.proofs.ReadBack.{identifier_hyphen_free}
use Rattle.iloc_spec_grammar.specs.Computing.{is_identifier, identifier_result}
use Rattle.iloc_spec_grammar.proofs.RuleTests.{tests_not, tests_identifier, tests_spelled}
use Rattle.iloc_spec_grammar.proofs.FaultLaws.{either}
use Rattle.iloc_spec_grammar.proofs.StepLaws.{identifier_step}
use Rattle.iloc_spec_grammar.proofs.Orders.{total}
use Rattle.iloc_spec_grammar.proofs.StepSizes.{identifier_size, piece_length, length-join}
use Rattle.iloc_spec_grammar.proofs.CaseLaws.{pieces-lower, identifier_of-low, is_identifier-low}
use Rattle.iloc_spec_grammar.proofs.Chains.{lower-join}
use Rattle.iloc_spec_grammar.proofs.PartTexts.{identifier_pieces-low}

-- the text has the pieces that were joined
pub pieces-identifier_text : {T : ℕ → Bool} (i : SpelledIdentifier) → HasWords T i →
    pieces (join (identifier_pieces i)) ≡ identifier_pieces i
pieces-identifier_text i h = pieces-join i.language _ (identifier_hyphen_free i h)

-- what is read is a value, and the text of a value means it

pub identifier_means_value : {T : ℕ → Bool} (ps : List Text) (i : Identifier) → IdentifierMeans T ps i →
    IsIdentifierValue T i
identifier_means_value {T = T} ps i m =
    rw m.means (identifier_value m.written m.grammatical.words)

pub identifier_text_means : {T : ℕ → Bool} (i : Identifier) → IsIdentifierValue T i →
    IdentifierMeans T (pieces (identifier_text i)) i
unfolding identifier_text
identifier_text_means {T = T} i h = rw (pieces-identifier_text (spelled_identifier i) (value_words h))
    (identifier_reads_back i h)

-- the normal text of a meaning means it
pub identifier_means_again : {T : ℕ → Bool} (ps : List Text) (i : Identifier) → IdentifierMeans T ps i →
    IdentifierMeans T (pieces (identifier_text i)) i
identifier_means_again ps i m = identifier_text_means i (identifier_means_value ps i m)

pub same_identifier_text : {T : ℕ → Bool} (i j : Identifier) → IsIdentifierValue T i → IsIdentifierValue T j →
    identifier_text i ≡ identifier_text j → i ≡ j
same_identifier_text {T = T} i j h k e = one_meaning (pieces (identifier_text j)) i j
    (rw e at (identifier_text_means i h))
    (identifier_text_means j k)

-- identifiers mean the same exactly where their normal texts are equal
pub same_identifier_meaning : {T : ℕ → Bool} (ps qs : List Text) (i j : Identifier) →
    IdentifierMeans T ps i → IdentifierMeans T qs j → (i ≡ j) ↔ (identifier_text i ≡ identifier_text j)
same_identifier_meaning ps qs i j m n = (
  λ e. ap identifier_text e,
  search (same_identifier_text, identifier_means_value),
)

-- a step keeps the meaning

case_means : (T : LanguageLengths) (t u : Text) (i : Identifier) → lower t ≡ lower u →
    IdentifierMeans T (pieces t) i → IdentifierMeans T (pieces u) i
case_means T t u i e m =
    let v = m.written in
    let w = identifier_of (pieces u) in
    let v_is : identifier_of (pieces t) ≡ v =
    grind (arith, identifier_of-pieces) in
    let same : lower_identifier v ≡ lower_identifier w =
    cc (
      v_is,
      identifier_of-low (pieces t),
      pieces-lower t,
      e,
      pieces-lower u,
      identifier_of-low (pieces u),
    ) in
    record {
      written = w;
      grammatical =
          (tests_identifier T w).holds (cc (
            is_identifier-low T w,
            same,
            is_identifier-low T v,
            (tests_identifier T v).passes m.grammatical,
          ));
      spelled = at_pieces (λ ps. ps ≡ identifier_pieces (identifier_of ps))
          (λ p ps. sym (pieces-identifier_of p ps)) u;
      means =
          cc (m.means, normal-lower_identifier v, same, normal-lower_identifier w);
    }

pub identifier_text_step_means : (T : LanguageLengths) (t u : Text) (i : Identifier) →
    TreeIdentifierTextStep T t u → IdentifierMeans T (pieces t) i → IdentifierMeans T (pieces u) i
identifier_text_step_means T t u i (TreeIdentifierTextStep.letter_case e) m = case_means T t u i e m
identifier_text_step_means T t u i (TreeIdentifierTextStep.variant_order {i = v} {j = w} h e s) m =
    let p = identifier_step s h in
    grind (arith, pieces-identifier_text, one_identifier)

-- and the length

length-identifier_text : (i : SpelledIdentifier) →
    length (join (identifier_pieces i)) + 1 ≡ total piece_length (identifier_pieces i)
length-identifier_text i = length-join i.language _

pub identifier_text_step_length : (T : LanguageLengths) (t u : Text) → TreeIdentifierTextStep T t u →
    length u ≡ length t
identifier_text_step_length T t u (TreeIdentifierTextStep.letter_case e) = grind (arith, length-lower)
identifier_text_step_length T t u (TreeIdentifierTextStep.variant_order {i = v} {j = w} h e s) =
    let a = length-identifier_text v in
    grind (arith, length-identifier_text, identifier_size, piece_length, join-pieces)

-- texts in one order differ in case alone

pub lower-identifier_text : {s : Stage} (i : IdentifierOf s) →
    lower (join (identifier_pieces i)) ≡ join (identifier_pieces (lower_identifier i))
lower-identifier_text i = rw (lower-join, identifier_pieces-low)

-- a meaning, or one fault

abbrev pub IdentifierAnswers : (ℕ → Bool) → List Text → Result Identifier Fault → Type 0
IdentifierAnswers T ps r = MatchResult r (IdentifierMeans T ps) (HasIdentifierFault T ps)

pub identifier_answers : (T : LanguageLengths) (p : Text) (ps : List Text) →
    IdentifierAnswers T (p ∷ ps) (identifier_result T (p ∷ ps))
identifier_answers T p ps =
    at_tests (is_word (Language T) p) refl (is_identifier T (identifier_of (p ∷ ps))) refl
  where
    at_tests : (l : Bool) → is_word (Language T) p ≡ l → (i : Bool) →
        is_identifier T (identifier_of (p ∷ ps)) ≡ i →
        IdentifierAnswers T (p ∷ ps) (cond (not l) (Err InvalidLanguage)
        (cond (not i) (Err InvalidSubtag) (Ok (normal_identifier (identifier_of (p ∷ ps))))))
    at_tests false l i k = not_a_language l
    at_tests true l false k = not_an_identifier l (tests_not (tests_spelled T p ps) k)
    at_tests true l true k = record {
      written = identifier_of (p ∷ ps);
      grammatical = (tests_identifier T (identifier_of (p ∷ ps))).holds k;
      spelled = sym (pieces-identifier_of p ps);
      means = refl;
    }

pub identifier_apart : {T : ℕ → Bool} (ps : List Text) (i : Identifier) (f : Fault) →
    IdentifierMeans T ps i → HasIdentifierFault T ps f → ⊥
identifier_apart {T = T} ps i f h (not_a_language e) = cc
identifier_apart ps i f h (not_an_identifier l n) = search

pub one_identifier_fault : {T : ℕ → Bool} (ps : List Text) {f g : Fault} → HasIdentifierFault T ps f →
    HasIdentifierFault T ps g → f ≡ g
one_identifier_fault ps (not_a_language e) (not_an_identifier k n) = absurd (true≢false (sym k ∙ e))
one_identifier_fault ps (not_an_identifier l n) (not_a_language e) = absurd (true≢false (sym l ∙ e))
one_identifier_fault ps _ _ = refl

pub text_identifier_or_fault : (T : LanguageLengths) (t : Text) →
    ((i : Identifier) × IdentifierMeans T (pieces t) i) ⊎ ((f : Fault) × HasIdentifierFault T (pieces t) f)
text_identifier_or_fault T t =
    at_pieces (λ ps. ((i : Identifier) × IdentifierMeans T ps i) ⊎ ((f : Fault) × HasIdentifierFault T ps f))
    (λ p ps. either (identifier_result T (p ∷ ps)) (identifier_answers T p ps)) t

pub head_identifier_or_fault : (T : LanguageLengths) (t : Text) →
    ((i : Identifier) × IdentifierMeans T (head (pieces t)) i)
    ⊎ ((f : Fault) × HasIdentifierFault T (head (pieces t)) f)
head_identifier_or_fault T t = at_pieces (λ ps.
    ((i : Identifier) × IdentifierMeans T (head ps) i) ⊎ ((f : Fault) × HasIdentifierFault T (head ps) f))
    (λ p ps. either (identifier_result T (p ∷ front ps)) (identifier_answers T p (front ps))) t
