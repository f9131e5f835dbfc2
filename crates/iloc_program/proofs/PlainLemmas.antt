-- The answers to texts that are plain, normal or refused.
use Rattle.std.proofs.Common.{◌≡◌, inl, inr, [], ◌∷◌, ◌++◌, Some, None, refl, ap, ◌∙◌}
use Rattle.iloc_spec_grammar.specs.Syntax.{Text, languages}
use Rattle.iloc_spec_grammar.specs.Meaning as faults
use Rattle.iloc_spec_grammar.proofs.RawLaws.{languages_table}
use Rattle.iloc_subtags.specs.declared.parse_error.ParseError.{ParseError}
use Rattle.iloc_subtags.specs.declared.parse_error.ParseError.TheVariants.{InvalidLanguage, InvalidSubtag, InvalidExtension, DuplicatedExtension, OutOfMemory}
use Rattle.iloc_program.specs.Answers.{line_answer, reply, refusal_text}
use Rattle.iloc_normalize.specs.Modes.{IsNormalText}
use Rattle.iloc_normalize.specs.Answered.{HasRefusal}
use Rattle.iloc_normalize.specs.declared.Mode.{Mode}
use Rattle.iloc_program.specs.Replies.{AnswersLine}
use Rattle.iloc_program.proofs.OutputLaws.{only_answer}

pub normal_reply : (mode : Mode) (t normal : Text) → IsNormalText languages mode t normal →
    normal ++ 10 ∷ [] ≡ reply languages mode t
normal_reply mode t normal h = ap (λ l. l ++ 10 ∷ []) (only_answer languages_table mode t normal (inl h))

refused_answer : (mode : Mode) (t : Text) (e : ParseError) → HasRefusal mode t e →
    refusal_text e ≡ line_answer languages mode t
refused_answer mode t InvalidLanguage h =
    only_answer languages_table mode t (refusal_text InvalidLanguage) (inr (faults.InvalidLanguage, h, refl))
refused_answer mode t InvalidSubtag h =
    only_answer languages_table mode t (refusal_text InvalidSubtag) (inr (faults.InvalidSubtag, h, refl))
refused_answer mode t InvalidExtension h = only_answer languages_table mode t (refusal_text InvalidExtension)
    (inr (faults.InvalidExtension, h, refl))
refused_answer mode t DuplicatedExtension h = only_answer languages_table mode t
    (refusal_text DuplicatedExtension) (inr (faults.DuplicatedExtension, h, refl))
refused_answer mode t OutOfMemory h = absurd h

pub refused_reply : (mode : Mode) (t : Text) (e : ParseError) → HasRefusal mode t e →
    refusal_text e ++ 10 ∷ [] ≡ reply languages mode t
refused_reply mode t e h = ap (λ l. l ++ 10 ∷ []) (refused_answer mode t e h)

-- so after the answer to the line, and what is written of a refusal
pub answered_reply : (mode : Mode) (t old new : Text) → AnswersLine mode t old new None →
    new ≡ old ++ reply languages mode t
answered_reply mode t old new (normal, is, e) =
    e ∙ ap (λ l. old ++ l) (normal_reply mode t normal is)

pub refused_then : (mode : Mode) (t old mid new : Text) (e : ParseError) →
    AnswersLine mode t old mid (Some e) → new ≡ mid ++ (refusal_text e ++ 10 ∷ []) →
    new ≡ old ++ reply languages mode t
refused_then mode t old mid new e (h, same) k =
    k ∙ ap (λ l. l ++ (refusal_text e ++ 10 ∷ [])) same
    ∙ ap (λ l. old ++ l) (refused_reply mode t e h)
