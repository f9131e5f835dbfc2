-- How much room is asked for at most, and what a refused request for it makes of an answer.
use Rattle.std.proofs.Common.{◌≡◌, suc, ◌+◌, ◌*◌, ◌≤◌, Bool, true, false, cond, not, List, [], ◌∷◌, length, refl, sym, ap, ◌∙◌, arith, ℕ, Result, Ok, Err}
use Rattle.iloc_spec_grammar.specs.Syntax.{Text, pieces, join, lower, Subtag, is_word, is_true}
use Rattle.iloc_spec_grammar.specs.Meaning.{normal_values}
use Rattle.iloc_spec_grammar.specs.Reading.{passing, rest_of}
use Rattle.iloc_spec_grammar.proofs.Orders.{total}
use Rattle.iloc_spec_grammar.proofs.PiecesLaws.{at_pieces, join-pieces}
use Rattle.iloc_spec_grammar.proofs.StepSizes.{piece_length, length-join}
use Rattle.iloc_memory.specs.Refusals.{RefusedWithin}
use Rattle.iloc_memory.proofs.Within.{within_more}
use Rattle.iloc_subtags.specs.declared.parse_error.ParseError.{ParseError}
use Rattle.iloc_subtags.specs.declared.parse_error.ParseError.TheVariants.{InvalidLanguage, InvalidSubtag, InvalidExtension, DuplicatedExtension, OutOfMemory}
use Rattle.iloc_subtags.specs.Judging.{RunsOutOnlyIf}

-- what follows from the reason of an answer is a reason too
pub runs_out_too : {X : Type 0} (P Q : Type 0) → (P → Q) → (r : Result X ParseError) → RunsOutOnlyIf P r →
    RunsOutOnlyIf Q r
runs_out_too P Q follows (Ok x) h = tt
runs_out_too P Q follows (Err InvalidLanguage) h = tt
runs_out_too P Q follows (Err InvalidSubtag) h = tt
runs_out_too P Q follows (Err InvalidExtension) h = tt
runs_out_too P Q follows (Err DuplicatedExtension) h = tt
runs_out_too P Q follows (Err OutOfMemory) h = follows h

-- a reason allows every answer
pub allows : {X : Type 0} (P : Type 0) (r : Result X ParseError) → P → RunsOutOnlyIf P r
allows P (Ok x) given = tt
allows P (Err InvalidLanguage) given = tt
allows P (Err InvalidSubtag) given = tt
allows P (Err InvalidExtension) given = tt
allows P (Err DuplicatedExtension) given = tt
allows P (Err OutOfMemory) given = given

-- a wider bound holds too
pub runs_out_more : {X : Type 0} (Refused : ℕ → Type 0) (m n : ℕ) → m ≤ n → (r : Result X ParseError) →
    RunsOutOnlyIf (RefusedWithin Refused m) r → RunsOutOnlyIf (RefusedWithin Refused n) r
runs_out_more Refused m n wider r h =
    runs_out_too (RefusedWithin Refused m) (RefusedWithin Refused n) (within_more Refused m n wider) r h

-- each piece that passes has a byte at least
passing_total : (test : Text → Bool) → test [] ≡ false → (ps : List Text) →
    2 * length (passing test ps) ≤ total piece_length ps
passing_total test none [] = omega arith
passing_total test none ([] ∷ ps) = rw none (omega arith)
passing_total test none ((c ∷ p) ∷ ps) =
    let later = passing_total test none ps in
    elim (test (c ∷ p)) as (λ b. 2 * length (cond b ((c ∷ p) ∷ passing test ps) [])
    ≤ piece_length (c ∷ p) + total piece_length ps) [
      | true ↦ omega (arith, later)
      | false ↦ omega arith
    ]

length-pieces : (t : Text) → total piece_length (pieces t) ≡ length t + 1
length-pieces t =
    at_pieces (λ ps. total piece_length ps ≡ length (join ps) + 1) (λ p ps. sym (length-join p ps)) t
    ∙ ap (λ s. length s + 1) (join-pieces t)

-- a text has at most one piece more than bytes
counted : (ps : List Text) → length ps ≤ total piece_length ps
counted [] = omega arith
counted (p ∷ ps) = let later = counted ps in omega (arith, later)

pub pieces_fit : (t : Text) → length (pieces t) ≤ length t + 1
pieces_fit t = let all = length-pieces t in let each = counted (pieces t) in omega (arith, all, each)

-- the pieces after the first are at most as many as the text has bytes
pub rest_fits : (t : Text) → length (rest_of (pieces t)) ≤ length t
rest_fits t = shorter (pieces t) (pieces_fit t)
  where
    shorter : (ps : List Text) → length ps ≤ length t + 1 → length (rest_of ps) ≤ length t
    shorter [] h = omega arith
    shorter (p ∷ ps) h = omega (arith, h)

-- the pieces at the front that pass are at most as many as the text has bytes
pub words_fit : (test : Text → Bool) → test [] ≡ false → (t : Text) →
    length (passing test (pieces t)) ≤ length t
words_fit test none t =
    let words = passing_total test none (pieces t) in
    let all = length-pieces t in omega (arith, words, all)

values_shorter : (ps : List Text) → length (normal_values ps) ≤ length ps
values_shorter [] = omega arith
values_shorter (p ∷ ps) =
    let later = values_shorter ps in
    elim (is_true (lower p)) as (λ b. length (cond (not b) (lower p ∷ normal_values ps) (normal_values ps))
    ≤ suc (length ps)) [
      | true ↦ omega (arith, later)
      | false ↦ omega (arith, later)
    ]

no_empty_word : is_word Subtag [] ≡ false
unfolding is_word
no_empty_word = refl

-- the subtags of a value are at most as many as the text has bytes
pub values_fit : (t : Text) → length (normal_values (passing (is_word Subtag) (pieces t))) ≤ length t
values_fit t =
    let words = words_fit (is_word Subtag) no_empty_word t in
    let few = values_shorter (passing (is_word Subtag) (pieces t)) in omega (arith, words, few)
