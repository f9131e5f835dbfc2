-- A run whose last flush failed wrote a beginning of the output: all of it.
use Rattle.std.proofs.Common.{◌≡◌, ◌++◌, [], ap, subst, sym, append-nil, Some, None}
use Rattle.std.proofs.Math.Seq.{take-append_seam}
use Rattle.std.specs.Prelude.{Option, Result, Ok, Err, OnOk}
use Rattle.std.specs.Io.{StartsWith}
use Rattle.std.specs.Io.KnownBytes.{Keeps}
use Rattle.iloc_spec_grammar.specs.Syntax.{Text, languages}
use Rattle.iloc_normalize.specs.declared.Mode.{Mode}
use Rattle.iloc_program.specs.Answers.{IsOutput}
use Rattle.iloc_program.specs.Output.{BeginsOutput, WritesAll, WritesBeginning}

-- the whole output is a beginning of itself
begins_output : (mode : Mode) (input written : Text) → IsOutput languages mode input written
    → BeginsOutput mode input written
begins_output mode input written is = (
  written,
  is,
  subst (λ (t : Text). StartsWith t written) (append-nil written) (take-append_seam written []),
)

-- what is known to be held stays held
still_held : (held : Text) (h' h2 : Option Text) → h' ≡ Some held → Keeps h' h2 → h2 ≡ Some held
still_held held h' h2 is kept = by h2 (subst (λ (h : Option Text). Keeps h h2) is kept)
  where
    by : (h2 : Option Text) → Keeps (Some held) h2 → h2 ≡ Some held
    by (Some t) k = ap Some k
    by None k = absurd k

-- a fact that holds whatever the result
pub on_ok : {T E : Type 0} (r : Result T E) (P : Type 0) → P → OnOk r P
on_ok (Ok x) P p = p
on_ok (Err e) P p = tt

-- what was written stays so after a flush
pub writes_all : (mode : Mode) (u u' h h' h2 : Option Text) → WritesAll mode u u' h h' → Keeps h' h2
    → WritesAll mode u u' h h2
unfolding WritesAll
writes_all mode (Some input) u' (Some held) h' h2 (written, is, end, holds) kept =
    (written, is, end, still_held (held ++ written) h' h2 holds kept)
writes_all mode (Some input) u' None h' h2 end kept = end
writes_all mode None u' (Some held) h' h2 (input, written, is, holds) kept =
    (input, written, is, still_held (held ++ written) h' h2 holds kept)
writes_all mode None u' None h' h2 all kept = tt

-- and is a beginning of the output
pub writes_beginning : (mode : Mode) (u u' h h' h2 : Option Text) → WritesAll mode u u' h h' → Keeps h' h2
    → WritesBeginning mode u u' h h2
unfolding WritesAll WritesBeginning
writes_beginning mode (Some input) u' (Some held) h' h2 (written, is, end, holds) kept = (
  input,
  [],
  written,
  sym (append-nil input),
  end,
  still_held (held ++ written) h' h2 holds kept,
  begins_output mode input written is,
  begins_output mode input written is,
)
writes_beginning mode (Some input) u' None h' h2 end kept = (input, [], sym (append-nil input), end)
writes_beginning mode None u' (Some held) h' h2 (input, written, is, holds) kept =
    (input, written, begins_output mode input written is, still_held (held ++ written) h' h2 holds kept)
writes_beginning mode None u' None h' h2 all kept = tt
