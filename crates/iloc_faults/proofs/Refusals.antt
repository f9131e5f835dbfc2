-- What a refusal says of the first piece: for its language a text is refused only if it begins with none.
use Rattle.std.proofs.Common.{◌≡◌, ◌≢◌, ℕ, Bool, true, false, List, [], ◌∷◌, length, None, inl, refl, sym, ◌∙◌, subst, arith}
use Rattle.iloc_spec_grammar.specs.Syntax.{Text, Language, languages, is_word, pieces, first_piece, Block}
use Rattle.iloc_spec_grammar.specs.Meaning.{BlockFault, not_a_language, in_head, in_block}
use Rattle.iloc_spec_grammar.specs.Meaning as faults
use Rattle.iloc_spec_grammar.proofs.PiecesLaws.{at_pieces}
use Rattle.iloc_spec_grammar.proofs.IdentifierTexts.{identifier_apart, one_identifier_fault}
use Rattle.iloc_spec_grammar.proofs.RawLaws.{languages_table}
use Rattle.iloc_spec_grammar.proofs.SameFaults.{accepted_no_fault, one_fault}
use Rattle.iloc_spec_parts.specs.Small as small
use Rattle.iloc_spec_parts.specs.DataLocales.{not_small}
use Rattle.iloc_spec_parts.proofs.DataLaws.{data_apart, one_data_fault}
use Rattle.iloc_subtags.specs.Judging.{error_of}
use Rattle.iloc_subtags.specs.declared.parse_error.ParseError.{ParseError}
use Rattle.iloc_subtags.specs.declared.parse_error.ParseError.TheVariants.{InvalidLanguage}
use Rattle.iloc_normalize.specs.Modes.{IsFaulty}
use Rattle.iloc_normalize.specs.Answered.{HasRefusal}
use Rattle.iloc_normalize.specs.declared.Mode.{Mode}
use Rattle.iloc_normalize.specs.declared.Mode.TheVariants.{Langid, Locale, Data}
use Rattle.iloc_normalize.proofs.FrontAnswers.{head_language, no_language_refused}
use Rattle.iloc_faults.specs.Next.{started, next}
use Rattle.iloc_faults.specs.Places.{IsAccepted, IsFaultPlace}
use Rattle.iloc_faults.proofs.Going.{goes_on, goes_no_longer}

-- a refusal names a fault of the text
pub fault_of_refusal : (mode : Mode) (t : Text) (e : ParseError) → HasRefusal mode t e →
    (f : faults.Fault) × IsFaulty languages mode t f × (e ≡ error_of f)
fault_of_refusal mode t e h = grind arith

same_fault : (mode : Mode) (t : Text) (f g : faults.Fault) → IsFaulty languages mode t f →
    IsFaulty languages mode t g → f ≡ g
same_fault mode t f g h k = grind (arith, one_identifier_fault, one_fault, one_data_fault)

pub one_refusal : (mode : Mode) (t : Text) (d e : ParseError) → HasRefusal mode t d → HasRefusal mode t e →
    d ≡ e
one_refusal mode t d e x y = grind (arith, fault_of_refusal, same_fault)

faulty_not : (mode : Mode) (t : Text) (f : faults.Fault) → IsAccepted mode t → IsFaulty languages mode t f → ⊥
faulty_not Langid t f a y = identifier_apart _ _ _ a.1 y
faulty_not Locale t f a y = accepted_no_fault languages_table t _ _ a.1 y
faulty_not Data t f a y = data_apart languages_table t _ _ a.1 y

-- what is refused means nothing
pub refused_not : (mode : Mode) (t : Text) (e : ParseError) → HasRefusal mode t e → ¬ (IsAccepted mode t)
refused_not mode t e h a = grind (arith, fault_of_refusal, faulty_not)

-- ---- the first piece

abbrev begins : Text → Bool
begins t = is_word (Language languages) (first_piece (pieces t))

-- for its language a text is refused only if it begins with none
no_language : (mode : Mode) (t : Text) → HasRefusal mode t InvalidLanguage → begins t ≡ false
no_language Langid t (not_a_language h) = h
no_language Locale t (in_head (not_a_language h)) = sym (head_language t) ∙ h
no_language Locale t (in_block _ b) = absurd (no_block b.5)
  where
    no_block : {bs : List Block} {b : Block} → BlockFault languages bs b faults.InvalidLanguage → ⊥
    no_block x = elim x [ ]
no_language Data t (not_small (small.bad_head (small.no_language h))) = sym (head_language t) ∙ h
no_language Data t (not_small (small.bad_block i _ _ _ x)) = elim x [ ]

-- for anything else only if it begins with one
pub language_first : (mode : Mode) (t : Text) (e : ParseError) → HasRefusal mode t e → e ≢ InvalidLanguage →
    begins t ≡ true
language_first mode t e h other = by (begins t) refl
  where
    by : (b : Bool) → begins t ≡ b → begins t ≡ true
    by true is = is
    by false is = absurd (other (one_refusal mode t e InvalidLanguage h (no_language_refused mode t is)))

-- ---- its place

-- no language comes first, so nothing may
stops_at_once : (mode : Mode) (p : Text) → is_word (Language languages) p ≡ false → next mode started p ≡ None
stops_at_once mode p e = grind arith

split : (t : Text) → (rest : List Text) × (pieces t ≡ first_piece (pieces t) ∷ rest)
split t = at_pieces (λ ps. (rest : List Text) × (ps ≡ first_piece ps ∷ rest)) (λ p ps. (ps, refl)) t

-- the fault of a text that is refused for its language is its first piece
pub first_place : (mode : Mode) (t : Text) (e : ParseError) → HasRefusal mode t e → e ≡ InvalidLanguage →
    (end : ℕ) → end ≡ length (first_piece (pieces t)) → IsFaultPlace mode t 0 end
first_place mode t e h is end to =
    let cut = split t in
    let none = no_language mode t (subst (HasRefusal mode t) is h) in
    inl (record {
      before = [];
      piece = first_piece (pieces t);
      after = cut.0;
      cut = cut.1;
      go_on = goes_on mode t [] (pieces t) started refl refl;
      no_longer = grind (arith, goes_no_longer, stops_at_once);
      from = refl;
      to = omega (arith, to);
    })
