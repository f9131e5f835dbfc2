-- How much room the parts of a text take at most.
use Rattle.std.proofs.Common.{◌≡◌, ℕ, ◌≤◌, suc, true, false, cond, List, [], ◌∷◌, length, refl, ap, arith, Result, Ok, Err}
use Rattle.iloc_memory.specs.Refusals.{RefusedWithin}
use Rattle.iloc_memory.proofs.Within.{within_more}
use Rattle.iloc_spec_grammar.specs.Meaning.{first_piece}
use Rattle.iloc_spec_grammar.specs.Reading.{rest_of, passing, is_two}
use Rattle.iloc_spec_grammar.specs.Syntax.{Text, pieces, Attribute, is_word}
use Rattle.iloc_spec_grammar.proofs.ReadingLaws.{length-past}
use Rattle.iloc_spec_parts.specs.Fronts.{attributes_front, after_attributes, keywords_front, is_keyword_piece}
use Rattle.iloc_spec_parts.proofs.KeptLaws.{passing_short}
use Rattle.iloc_subtags.specs.declared.parse_error.ParseError.{ParseError}
use Rattle.iloc_subtags.specs.declared.parse_error.ParseError.TheVariants.{InvalidLanguage, InvalidSubtag, InvalidExtension, DuplicatedExtension, OutOfMemory}
use Rattle.iloc_subtags.specs.Judging.{RunsOutOnlyIf}
use Rattle.iloc_word_list.proofs.RoomLemmas.{pieces_fit, words_fit}

-- a wider bound of what was refused holds of the answer too
pub runs_out_within : {X : Type 0} (Refused : ℕ → Type 0) (m n : ℕ) → m ≤ n → (r : Result X ParseError) →
    RunsOutOnlyIf (RefusedWithin Refused m) r → RunsOutOnlyIf (RefusedWithin Refused n) r
runs_out_within Refused m n wider (Ok x) h = tt
runs_out_within Refused m n wider (Err OutOfMemory) h = within_more Refused m n wider h
runs_out_within Refused m n wider (Err InvalidLanguage) h = tt
runs_out_within Refused m n wider (Err InvalidSubtag) h = tt
runs_out_within Refused m n wider (Err InvalidExtension) h = tt
runs_out_within Refused m n wider (Err DuplicatedExtension) h = tt

no_attribute : is_word Attribute [] ≡ false
unfolding is_word
no_attribute = refl

no_keyword_piece : is_keyword_piece [] ≡ false
unfolding is_word
no_keyword_piece = refl

-- a text has at least as many bytes as attributes
pub attributes_fit : (t : Text) → length (attributes_front (pieces t)) ≤ length t
attributes_fit = words_fit (is_word Attribute) no_attribute

-- keywords at the front are no more than the pieces that may stand in them
keywords_short : (ps : List Text) → length (keywords_front ps) ≤ length (passing is_keyword_piece ps)
keywords_short ps =
    elim (is_two (first_piece ps))
    as (λ b. length (cond b (passing is_keyword_piece ps) []) ≤ length (passing is_keyword_piece ps)) [
      | true ↦ omega arith
      | false ↦ omega arith
    ]

-- a text has at least as many bytes as pieces of keywords
pub keywords_fit : (t : Text) → length (keywords_front (pieces t)) ≤ length t
keywords_fit t =
    let few = keywords_short (pieces t) in let all = words_fit is_keyword_piece no_keyword_piece t in
    omega (arith, few, all)

-- the keywords after the attributes are among all pieces
pub keywords_within : (ps middle : List Text) → middle ≡ after_attributes ps →
    length (keywords_front middle) ≤ length ps
keywords_within ps middle after =
    let few = keywords_short middle in
    let fewer = passing_short is_keyword_piece middle in
    let left_over = length-past (is_word Attribute) ps in
    let same = ap length after in omega (arith, few, fewer, left_over, same)

shorter : (ps : List Text) (n : ℕ) → length ps ≤ suc n → length (rest_of ps) ≤ n
shorter [] n h = omega arith
shorter (p ∷ ps) n h = omega (arith, h)

-- a text has at least as many bytes as pieces after the first
pub rest_fits : (t : Text) (ps : List Text) → ps ≡ rest_of (pieces t) → length ps ≤ length t
rest_fits t ps is =
    let few = shorter (pieces t) (length t) (pieces_suc t) in let same = ap length is in
    omega (arith, few, same)
  where
    pieces_suc : (t : Text) → length (pieces t) ≤ suc (length t)
    pieces_suc t = let h = pieces_fit t in omega (arith, h)
