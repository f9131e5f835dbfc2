-- A line has one entry, and an input one listing. Without options it is the output.
use Rattle.std.proofs.Common.{◌≡◌, ℕ, ◌+◌, List, [], ◌∷◌, ◌++◌, inl, inr, refl, sym, ap, ap₂, ◌∙◌, subst}
use Rattle.std.specs.List.{flat_map}
use Rattle.iloc_spec_grammar.specs.Syntax.{Text, languages}
use Rattle.iloc_spec_grammar.specs.Meaning as faults
use Rattle.iloc_spec_grammar.proofs.IdentifierTexts.{identifier_apart, one_identifier_fault}
use Rattle.iloc_spec_grammar.proofs.RawLaws.{languages_table}
use Rattle.iloc_spec_grammar.proofs.SameFaults.{accepted_no_fault, one_fault}
use Rattle.iloc_spec_parts.proofs.DataLaws.{data_apart, one_data_fault}
use Rattle.iloc_subtags.specs.Judging.{error_of}
use Rattle.iloc_subtags.specs.declared.parse_error.ParseError.{ParseError}
use Rattle.iloc_subtags.specs.declared.parse_error.ParseError.TheVariants.{InvalidLanguage, InvalidSubtag, InvalidExtension, DuplicatedExtension, OutOfMemory}
use Rattle.iloc_normalize.specs.Modes.{IsNormalText, IsFaulty}
use Rattle.iloc_normalize.specs.Answered.{HasRefusal}
use Rattle.iloc_normalize.specs.declared.Mode.{Mode}
use Rattle.iloc_normalize.specs.declared.Mode.TheVariants.{Langid, Locale, Data}
use Rattle.iloc_faults.specs.Places.{IsFault}
use Rattle.iloc_faults.specs.declared.Fault.{Fault}
use Rattle.iloc_faults.proofs.OnePlace.{one_place}
use Rattle.iloc_faults.proofs.Refusals.{fault_of_refusal, one_refusal}
use Rattle.iloc_program.specs.Lines.{lines_of}
use Rattle.iloc_program.specs.Answers.{IsOutput, reply}
use Rattle.iloc_program.proofs.OutputLaws.{is_output, only_answer}
use Rattle.iloc_program.proofs.PlainLemmas.{normal_reply, refused_reply}
use Rattle.iloc_program.specs.declared.numbered.Listing.{Listing}
use Rattle.iloc_program.specs.Numbered.{AreEntries, IsListing}
use Rattle.iloc_program.specs.Listing.{IsEntry, accepted_entry, refused_entry, nothing_asked}

-- without options

plain_entry : (mode : Mode) (n : ℕ) (line t : Text) → IsEntry mode nothing_asked n line t →
    t ≡ reply languages mode line
plain_entry mode n line t (inl (normal, is, e)) = e ∙ normal_reply mode line normal is
plain_entry mode n line t (inr (f, is, e)) = e ∙ refused_reply mode line f.refusal is.refusal

plain_entries : (mode : Mode) (n : ℕ) (lines : List Text) (t : Text) →
    AreEntries (IsEntry mode nothing_asked) n lines t → t ≡ flat_map (reply languages mode) lines
plain_entries mode n [] t e = e
plain_entries mode n (line ∷ lines) t (entry, rest, is, others, e) =
    e ∙ ap₂ ◌++◌ (plain_entry mode n line entry is) (plain_entries mode (n + 1) lines rest others)

pub plain_listing : (mode : Mode) (n : ℕ) (input t : Text) →
    IsListing (IsEntry mode nothing_asked) n input t → IsOutput languages mode input t
plain_listing mode n input t is =
    subst (IsOutput languages mode input) (sym (plain_entries mode n (lines_of input) t is))
    (is_output languages_table mode input)

-- one entry

pub apart : (mode : Mode) (t normal : Text) (f : faults.Fault) → IsNormalText languages mode t normal →
    IsFaulty languages mode t f → ⊥
apart Langid t normal f x y = identifier_apart _ _ _ x.1 y
apart Locale t normal f x y = accepted_no_fault languages_table t _ _ x.1 y
apart Data t normal f x y = data_apart languages_table t _ _ x.1 y

one_whole_fault : (mode : Mode) (t : Text) (f g : Fault) → IsFault mode t f → IsFault mode t g → f ≡ g
one_whole_fault mode t f g x y =
    let why : f.refusal ≡ g.refusal = one_refusal mode t f.refusal g.refusal x.refusal y.refusal in
    let place : (f.start ≡ g.start) × (f.end ≡ g.end) =
    one_place mode t f.start f.end g.start g.end x.place y.place in
    λ i. record { refusal = why i; start = place.0 i; end = place.1 i }

no_both : (mode : Mode) (t normal : Text) (f : Fault) → IsNormalText languages mode t normal →
    IsFault mode t f → ⊥
no_both mode t normal f x y =
    let g = fault_of_refusal mode t f.refusal y.refusal in apart mode t normal g.0 x g.1

one_normal : (mode : Mode) (t a b : Text) → IsNormalText languages mode t a →
    IsNormalText languages mode t b → a ≡ b
one_normal mode t a b x y =
    only_answer languages_table mode t a (inl x) ∙ sym (only_answer languages_table mode t b (inl y))

one_entry : (mode : Mode) (l : Listing) (n : ℕ) (line s t : Text) → IsEntry mode l n line s →
    IsEntry mode l n line t → s ≡ t
one_entry mode l n line s t (inl (a, x, d)) (inl (b, y, e)) =
    d ∙ ap (accepted_entry l) (one_normal mode line a b x y) ∙ sym e
one_entry mode l n line s t (inl (a, x, d)) (inr (f, y, e)) = absurd (no_both mode line a f x y)
one_entry mode l n line s t (inr (f, x, d)) (inl (b, y, e)) = absurd (no_both mode line b f y x)
one_entry mode l n line s t (inr (f, x, d)) (inr (g, y, e)) =
    d ∙ ap (refused_entry l n line) (one_whole_fault mode line f g x y) ∙ sym e

entries_once : (mode : Mode) (l : Listing) (n : ℕ) (lines : List Text) (s t : Text) →
    AreEntries (IsEntry mode l) n lines s → AreEntries (IsEntry mode l) n lines t → s ≡ t
entries_once mode l n [] s t x y = x ∙ sym y
entries_once mode l n (line ∷ lines) s t (entry, rest, is, others, d) (entry', rest', is', others', e) =
    d
    ∙ ap₂ ◌++◌ (one_entry mode l n line entry entry' is is')
    (entries_once mode l (n + 1) lines rest rest' others others')
    ∙ sym e

pub one_listing : (mode : Mode) (l : Listing) (n : ℕ) (input s t : Text) →
    IsListing (IsEntry mode l) n input s → IsListing (IsEntry mode l) n input t → s ≡ t
one_listing mode l n input s t x y = entries_once mode l n (lines_of input) s t x y
