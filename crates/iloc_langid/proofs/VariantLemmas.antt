-- How many variants an identifier has at most.
use Rattle.std.proofs.Common.{◌≡◌, ℕ, ◌-◌, ◌≤◌, List, [], ◌∷◌, length, Result, arith}
use Rattle.iloc_spec_grammar.specs.Syntax.{Text, pieces, Variant, is_word}
use Rattle.iloc_spec_grammar.specs.Reading.{rest_of, after_region, passing}
use Rattle.iloc_spec_parts.proofs.KeptLaws.{passing_short}
use Rattle.iloc_memory.specs.Refusals.{RefusedWithin}
use Rattle.iloc_subtags.specs.declared.parse_error.ParseError.{ParseError}
use Rattle.iloc_subtags.specs.Judging.{RunsOutOnlyIf}
use Rattle.iloc_word_list.proofs.RoomLemmas.{pieces_fit}

rest_short : (ps : List Text) → length (rest_of ps) ≤ length ps - 1
rest_short [] = omega arith
rest_short (p ∷ ps) = omega arith

-- those at the front are at most as many as the pieces after the first
variants_fit : (ps : List Text) → length (passing (is_word Variant) (after_region ps)) ≤ length ps - 1
variants_fit ps = grind (arith, passing_short, rest_short)

pub refused_after : {X : Type 0} (Refused : ℕ → Type 0) (ps rest : List Text) → rest ≡ after_region ps →
    (r : Result X ParseError) →
    RunsOutOnlyIf (RefusedWithin Refused (length (passing (is_word Variant) rest))) r →
    RunsOutOnlyIf (RefusedWithin Refused (length ps - 1)) r
refused_after Refused ps rest after r h = grind (arith, variants_fit)

-- and as many as the text has bytes
pub refused_in_text : {X : Type 0} (Refused : ℕ → Type 0) (t : Text) (ps : List Text) → ps ≡ pieces t →
    (r : Result X ParseError) → RunsOutOnlyIf (RefusedWithin Refused (length ps - 1)) r →
    RunsOutOnlyIf (RefusedWithin Refused (length t)) r
refused_in_text Refused t ps e r h = grind (arith, pieces_fit)
