-- How much room is asked for at most.
use Rattle.std.proofs.Common.{◌≡◌, ℕ, suc, ◌+◌, ◌≤◌, List, ◌∷◌, ◌++◌, length, filter, sym, ap, ◌∙◌, subst, arith, length-append, Result, Some}
use Rattle.std.proofs.lemmas.List.{length-map}
use Rattle.std.proofs.lemmas.List.Sums.{length-filter, count_by-le-length}
use Rattle.iloc_memory.specs.Refusals.{RefusedWithin}
use Rattle.iloc_spec_grammar.specs.Syntax.{Text, pieces, kept, Subtag, is_word, lower}
use Rattle.iloc_spec_grammar.specs.Reading.{rest_of, take_first, skip_first}
use Rattle.iloc_spec_parts.proofs.KeptLaws.{passing_short}
use Rattle.iloc_spec_parts.specs.Fronts.{has_other_length, other_front}
use Rattle.iloc_subtags.specs.declared.parse_error.ParseError.{ParseError}
use Rattle.iloc_subtags.specs.Judging.{RunsOutOnlyIf}
use Rattle.iloc_word_list.proofs.RoomLemmas.{rest_fits, runs_out_more}
use Rattle.iloc_other.proofs.OtherLemmas.{TakingPieces, took, front_first}

-- after the singleton of a text
pub text_room : {X : Type 0} (Refused : ℕ → Type 0) (t : Text) (more : List Text) →
    more ≡ rest_of (pieces t) → (r : Result X ParseError) →
    RunsOutOnlyIf (RefusedWithin Refused (length more)) r → RunsOutOnlyIf (RefusedWithin Refused (length t)) r
text_room Refused t more after r h =
    let fits : length more ≤ length t = subst (λ ps. length ps ≤ length t) (sym after) (rest_fits t) in
    runs_out_more Refused _ _ fits r h

-- other extensions

kept_short : (ps : List Text) → length (kept ps) ≤ length ps
kept_short ps =
    let words = length-filter (is_word Subtag) ps in
    let all = length-map (filter (is_word Subtag) ps) lower in
    omega (arith, all, words, count_by-le-length (is_word Subtag) ps)

-- one subtag more is at most as many as there are pieces
pub piece_room : (before now ws : List Text) (p : Text) → TakingPieces before now ws →
    Some p ≡ take_first has_other_length now → length ws + 1 ≤ length before
piece_room before now ws p h e =
    let t = took has_other_length now p e in
    let later : List Text = skip_first has_other_length now in
    let first : other_front now ≡ p ∷ other_front later = ap other_front t.1 ∙ (front_first p later t.0).0 in
    let front : length (other_front before) ≡ length (h.taken ++ (p ∷ other_front later)) =
    ap length (h.front ∙ ap (λ l. h.taken ++ l) first) in
    let parts : length (h.taken ++ (p ∷ other_front later))
    ≡ length h.taken + suc (length (other_front later)) =
    length-append h.taken (p ∷ other_front later) in
    let few : length ws ≡ length (kept h.taken) = ap length h.means in
    let words = kept_short h.taken in
    let all = passing_short has_other_length before in
    omega arith
