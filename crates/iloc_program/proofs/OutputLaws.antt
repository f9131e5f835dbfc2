-- Each line has one answer, and each input one output: those that are computed.
use Rattle.std.proofs.Common.{◌≡◌, inl, inr, ℕ, Bool, List, [], ◌∷◌, ◌++◌, map, refl, sym, ap, ◌∙◌, MatchResult, Result, Ok, Err}
use Rattle.std.specs.List.{AllZip, flat_map}
use Rattle.iloc_spec_grammar.specs.Syntax.{Text, pieces, AreLengths}
use Rattle.iloc_spec_grammar.specs.Meaning.{Means, IdentifierMeans, Fault, HasIdentifierFault, HasFault}
use Rattle.iloc_spec_grammar.specs.Values.{identifier_text, text}
use Rattle.iloc_spec_grammar.proofs.IdentifierLaws as identifiers
use Rattle.iloc_spec_grammar.proofs.IdentifierTexts.{identifier_apart, one_identifier_fault}
use Rattle.iloc_spec_grammar.proofs.SameMeaning as locales
use Rattle.iloc_spec_grammar.proofs.SameFaults.{accepted_no_fault, one_fault}
use Rattle.iloc_spec_parts.specs.DataLocales.{DataMeans, HasDataFault, data_text}
use Rattle.iloc_spec_parts.specs.DataComputing.{data_result}
use Rattle.iloc_spec_parts.proofs.DataLaws.{data_answer, one_data, data_apart, one_data_fault}
use Rattle.iloc_spec_grammar.specs.Computing.{identifier_result, locale_result}
use Rattle.iloc_program.specs.Lines.{lines_of, ended}
use Rattle.iloc_program.specs.Answers.{refusal, IsAnswer, IsOutput, text_or_refusal, line_answer, reply, output}
use Rattle.iloc_normalize.specs.Modes.{IsNormalText, IsFaulty}
use Rattle.iloc_normalize.specs.declared.Mode.{Mode}
use Rattle.iloc_normalize.specs.declared.Mode.TheVariants.{Langid, Locale, Data}
use Rattle.iloc_spec_grammar.proofs.ComputingLaws.{text_identifier_answers, locale_answers}

-- an answer to each result
by_result : {X : Type 0} (P : X → Type 0) (F : Fault → Type 0) (A : Text → Type 0) (print : X → Text) →
    ((x : X) → P x → A (print x)) → ((f : Fault) → F f → A (refusal f)) → (o : Result X Fault) →
    MatchResult o P F → A (text_or_refusal print o)
by_result P F A print ok err (Ok x) h = ok x h
by_result P F A print ok err (Err f) h = err f h

module _ {T : ℕ → Bool} (table : AreLengths T) where
  pub is_answer : (mode : Mode) (line : Text) → IsAnswer T mode line (line_answer T mode line)
  unfolding line_answer
  is_answer Langid line = by_result (IdentifierMeans T (pieces line)) (HasIdentifierFault T (pieces line))
      (IsAnswer T Langid line) identifier_text (λ x h. inl (x, h, refl)) (λ f h. inr (f, h, refl))
      (identifier_result T (pieces line)) (text_identifier_answers T line)
  is_answer Locale line = by_result (Means T line) (HasFault T line) (IsAnswer T Locale line) text
      (λ x h. inl (x, h, refl)) (λ f h. inr (f, h, refl)) (locale_result T line) (locale_answers T table line)
  is_answer Data line = by_result (DataMeans T line) (HasDataFault T line) (IsAnswer T Data line) data_text
      (λ x h. inl (x, h, refl)) (λ f h. inr (f, h, refl)) (data_result T line) (data_answer table line)

  one_normal_text : (mode : Mode) (line a b : Text) → IsNormalText T mode line a →
      IsNormalText T mode line b → a ≡ b
  one_normal_text Langid line a b x y =
      x.2 ∙ ap identifier_text (identifiers.one_meaning (pieces line) _ _ x.1 y.1) ∙ sym y.2
  one_normal_text Locale line a b x y = x.2 ∙ ap text (locales.one_meaning table line _ _ x.1 y.1) ∙ sym y.2
  one_normal_text Data line a b x y = x.2 ∙ ap data_text (one_data table line _ _ x.1 y.1) ∙ sym y.2

  one_line_fault : (mode : Mode) (line : Text) (f g : Fault) → IsFaulty T mode line f →
      IsFaulty T mode line g → f ≡ g
  one_line_fault Langid line f g x y = one_identifier_fault _ x y
  one_line_fault Locale line f g x y = one_fault line x y
  one_line_fault Data line f g x y = one_data_fault line x y

  apart : (mode : Mode) (line a : Text) (f : Fault) → IsNormalText T mode line a → IsFaulty T mode line f →
      ⊥
  apart Langid line a f x y = identifier_apart _ _ _ x.1 y
  apart Locale line a f x y = accepted_no_fault table line _ _ x.1 y
  apart Data line a f x y = data_apart table line _ _ x.1 y

  one_answer : (mode : Mode) (line a b : Text) → IsAnswer T mode line a → IsAnswer T mode line b → a ≡ b
  one_answer mode line a b (inl x) (inl y) = one_normal_text mode line a b x y
  one_answer mode line a b (inl x) (inr y) = absurd (apart mode line _ _ x y.1)
  one_answer mode line a b (inr x) (inl y) = absurd (apart mode line _ _ y x.1)
  one_answer mode line a b (inr x) (inr y) = x.2 ∙ ap refusal (one_line_fault mode line _ _ x.1 y.1) ∙ sym y.2

  pub only_answer : (mode : Mode) (line answer : Text) → IsAnswer T mode line answer →
      answer ≡ line_answer T mode line
  only_answer mode line answer h =
      one_answer mode line answer (line_answer T mode line) h (is_answer mode line)

  all_answers : (mode : Mode) (lines : List Text) →
      AllZip (IsAnswer T mode) lines (map (line_answer T mode) lines)
  all_answers mode [] = tt
  all_answers mode (line ∷ lines) = (is_answer mode line, all_answers mode lines)

  only_answers : (mode : Mode) (lines answers : List Text) → AllZip (IsAnswer T mode) lines answers →
      answers ≡ map (line_answer T mode) lines
  only_answers mode [] [] h = refl
  only_answers mode [] (a ∷ xs) h = absurd h
  only_answers mode (line ∷ lines) [] h = absurd h
  only_answers mode (line ∷ lines) (a ∷ xs) h =
      λ i. only_answer mode line a h.0 i ∷ only_answers mode lines xs h.1 i

  pub replies : (mode : Mode) (lines : List Text) →
      flat_map (reply T mode) lines ≡ ended (map (line_answer T mode) lines)
  replies mode [] = refl
  replies mode (line ∷ lines) = ap (λ (l : Text). reply T mode line ++ l) (replies mode lines)

  pub is_output : (mode : Mode) (input : Text) → IsOutput T mode input (output T mode input)
  is_output mode input = record {
    answers = map (line_answer T mode) (lines_of input);
    each = all_answers mode (lines_of input);
    are = replies mode (lines_of input);
  }

  pub only_output : (mode : Mode) (input written : Text) → IsOutput T mode input written →
      written ≡ output T mode input
  only_output mode input written h = h.are ∙ ap ended (only_answers mode (lines_of input) h.answers h.each)
      ∙ sym (replies mode (lines_of input))
