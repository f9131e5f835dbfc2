-- The entry of a line, from what is said of the line.
use Rattle.std.proofs.Common.{◌≡◌, ℕ, true, false, ◌++◌, inl, inr, refl, sym, ap, ◌∙◌, append-nil, append_assoc, [], ◌∷◌, None, length, take, if◌then◌else◌, Bool, not, subst}
use Rattle.std.specs.Prelude.{Result, OnOk}
use Rattle.std.proofs.Math.Seq.{take-append_seam}
use Rattle.iloc_subtags.specs.declared.parse_error.ParseError.{ParseError}
use Rattle.iloc_normalize.specs.Answered.{HasRefusal}
use Rattle.iloc_program.specs.Answers.{refusal_text}
use Rattle.iloc_program.specs.Replies.{AnswersLine}
use Rattle.iloc_program.proofs.Placed.{fault_there}
use Rattle.iloc_spec_grammar.specs.Syntax.{Text, languages}
use Rattle.iloc_spec_grammar.specs.Values.{identifier_text, text}
use Rattle.iloc_spec_parts.specs.DataLocales.{data_text}
use Rattle.iloc_normalize.specs.Modes.{IsNormalText}
use Rattle.iloc_normalize.specs.declared.Mode.{Mode}
use Rattle.iloc_normalize.specs.declared.Mode.TheVariants.{Langid, Locale, Data}
use Rattle.iloc_faults.specs.Places.{IsAccepted, IsFault}
use Rattle.iloc_faults.specs.declared.Fault.{Fault}
use Rattle.iloc_program.specs.declared.numbered.Listing.{Listing}
use Rattle.iloc_program.specs.Numbered.{AddsText}
use Rattle.iloc_program.specs.Listing.{IsEntry, accepted_entry, refused_entry, number_column, place_columns}

module _ (mode : Mode) (l : Listing) (n : ℕ) (line old : Text) where
  pub left_out : (new mid : Text) → AnswersLine mode line old mid None → l.only_refused ≡ true →
      new ≡ take (length old) mid → AddsText (IsEntry mode l n line) old new
  left_out new mid (normal, is, e) only cut = (
    accepted_entry l normal,
    inl (normal, is, refl),
    rw only (cut ∙ ap (take (length old)) e ∙ take-append_seam old (normal ++ 10 ∷ [])
        ∙ sym (append-nil old)),
  )

  pub replied : (new : Text) → AnswersLine mode line old new None → l.only_refused ≡ false →
      AddsText (IsEntry mode l n line) old new
  replied new (normal, is, e) all = (accepted_entry l normal, inl (normal, is, refl), rw all e)

  -- without a place
  pub refused : (e : ParseError) (mid new : Text) → HasRefusal mode line e → l.places ≡ false →
      mid ≡ old ++ (if l.numbers then number_column n else []) → new ≡ mid ++ (refusal_text e ++ 10 ∷ [])
      → AddsText (IsEntry mode l n line) old new
  refused e mid new h none k m =
      let there = fault_there mode line e h in
      let f : Fault = record { refusal = e; start = there.0; end = there.1 } in (
        refused_entry l n line f,
        inr (f, there.2, refl),
        rw none (m ∙ ap (λ (t : Text). t ++ (refusal_text e ++ 10 ∷ [])) k
            ∙ append_assoc old (if l.numbers then number_column n else []) (refusal_text e ++ 10 ∷ [])),
      )

  -- with its place
  pub placed : (f : Fault) (mid new : Text) → IsFault mode line f → l.places ≡ true →
      mid ≡ old ++ (if l.numbers then number_column n else []) →
      new ≡ mid ++ (refusal_text f.refusal ++ (place_columns line f ++ 10 ∷ []))
      → AddsText (IsEntry mode l n line) old new
  placed f mid new is asked k m = (
    refused_entry l n line f,
    inr (f, is, refl),
    rw asked (m ∙ ap (λ (t : Text). t ++ (refusal_text f.refusal ++ (place_columns line f ++ 10 ∷ []))) k
        ∙ append_assoc old (if l.numbers then number_column n else [])
        (refusal_text f.refusal ++ (place_columns line f ++ 10 ∷ []))),
  )

-- the entry in a mode, of a text and behind what was held, under other names
pub entry_of : {T E : Type 0} (r : Result T E) (mode mode' : Mode) (l : Listing) (n : ℕ)
    (t t' old old' new : Text) → mode ≡ mode' → t ≡ t' → old ≡ old'
    → OnOk r (AddsText (IsEntry mode l n t) old new) → OnOk r (AddsText (IsEntry mode' l n t') old' new)
entry_of r mode mode' l n t t' old old' new a b c h =
    subst (λ (x : Mode). OnOk r (AddsText (IsEntry x l n t') old' new)) a
    (subst (λ (x : Text). OnOk r (AddsText (IsEntry mode l n x) old' new)) b
    (subst (λ (x : Text). OnOk r (AddsText (IsEntry mode l n t) x new)) c h))

-- tests that were turned
pub not_true : (b : Bool) → not b ≡ true → b ≡ false
not_true true e = cc
not_true false e = refl

pub not_false : (b : Bool) → not b ≡ false → b ≡ true
not_false true e = refl
not_false false e = cc

-- an entry from its columns
pub columns : (a a' b b' c c' : Text) → a ≡ a' → b ≡ b' → c ≡ c' →
    a ++ (b ++ (c ++ 10 ∷ [])) ≡ a' ++ ((b' ++ c') ++ 10 ∷ [])
columns a a' b b' c c' e f g = (λ j. e j ++ (f j ++ (g j ++ 10 ∷ [])))
    ∙ ap (λ (t : Text). a' ++ t) (sym (append_assoc b' c' (10 ∷ [])))

-- and if they are added one after the other
pub one_by_one : (h a b c : Text) → (((h ++ a) ++ b) ++ c) ++ 10 ∷ [] ≡ h ++ (a ++ ((b ++ c) ++ 10 ∷ []))
one_by_one h a b c = simp append_assoc
