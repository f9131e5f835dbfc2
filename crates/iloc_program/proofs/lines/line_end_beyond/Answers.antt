use Rattle.std.proofs.Common.{subst, Option, ℕ}
use Rattle.iloc_program.proofs.EndLemmas.{end_nowhere, end_there}
use Rattle.iloc_program.proofs.PlaceLemmas.{takes_first_byte}
use Rattle.memchr.specs.Find.{IsFirstByte, is_byte}
use Rattle.iloc_program.proofs.lines.line_end_beyond.Goals as goal

pub returns-in-Some : goal.returns-in-Some
returns-in-Some c =
    let hay = c.args.bytes.now in
    end_there hay c.in-Some.end (subst (λ (r : Option ℕ). IsFirstByte (is_byte 10) hay r) c.in-Some.is
    (takes_first_byte (is_byte 10) hay _ _ _ c.memchr_iter.ensures.value c.next.ensures.steps))

pub returns-in-None : goal.returns-in-None
returns-in-None c =
    let hay = c.args.bytes.now in
    end_nowhere hay (subst (λ (r : Option ℕ). IsFirstByte (is_byte 10) hay r) c.in-None.is
    (takes_first_byte (is_byte 10) hay _ _ _ c.memchr_iter.ensures.value c.next.ensures.steps))
