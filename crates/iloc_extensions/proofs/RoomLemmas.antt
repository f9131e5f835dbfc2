-- How much room a locale takes at most.
use Rattle.std.proofs.Common.{◌≡◌, ℕ, ◌+◌, ◌≤◌, List, [], ◌∷◌, length, refl, arith, Result, OnOk, IfOk, IsOkAnd, OnErr}
use Rattle.std.specs.FinMap.{put}
use Rattle.std.specs.Ordering.{nat_cmp}
use Rattle.iloc_memory.specs.Refusals.{RefusedWithin}
use Rattle.iloc_spec_grammar.specs.Syntax.{Text, pieces}
use Rattle.iloc_spec_grammar.specs.Reading.{rest_of, after_head}
use Rattle.iloc_subtags.specs.declared.parse_error.ParseError.{ParseError}
use Rattle.iloc_subtags.specs.Judging.{RunsOutOnlyIf}
use Rattle.iloc_word_list.proofs.RoomLemmas.{allows, rest_fits, runs_out_too}
use Rattle.iloc_extensions.proofs.AnswerLemmas.{rest_short}

-- the pieces after the head are at most as many as the text has bytes
pub after_head_fits : (t : Text) → length (after_head (pieces t)) ≤ length t
after_head_fits t =
    let all = rest_fits t in
    let some = rest_short (rest_of (pieces t)) (after_head (pieces t)) refl in omega (arith, all, some)

-- what holds on each error is a reason of each
pub once_refused : {X : Type 0} (P : Type 0) (r : Result X ParseError) → OnErr r P → RunsOutOnlyIf P r
once_refused P r h = grind (arith, allows)

-- an extension that is put in makes at most one more
put_one : (c : ℕ) (ws : List Text) (os : List (ℕ × List Text)) → length (put nat_cmp c ws os) ≤ length os + 1
put_one c ws [] = omega arith
put_one c ws (o ∷ os) = grind (arith, put_one c ws os)

pub one_more : (o : ℕ × List Text) (old new : List (ℕ × List Text)) (r : Result (Unit {0}) ParseError) →
    OnOk r (new ≡ put nat_cmp o.0 o.1 old) → OnOk r (length new ≤ length old + 1)
one_more o old new r h = grind (arith, put_one)

-- Memory that refuses nothing never runs out.
module _ (Refused : ℕ → Type 0) (never : (n : ℕ) → Refused n → ⊥) (limit : ℕ) where
  pub never_out : {X : Type 0} (r : Result X ParseError) → RunsOutOnlyIf (RefusedWithin Refused limit) r →
      RunsOutOnlyIf ⊥ r
  never_out r given = grind (arith, runs_out_too)

  pub always_made : {X E : Type 0} (P : X → Type 0) (r : Result X E) → IfOk r P →
      OnErr r (RefusedWithin Refused limit) → IsOkAnd r P
  always_made P r h k = grind arith
