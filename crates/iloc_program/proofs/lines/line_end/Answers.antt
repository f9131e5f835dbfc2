use Rattle.std.proofs.Common.{◌≡◌, sym, ◌∙◌, arith}
use Rattle.memchr.specs.Find.{is_byte}
use Rattle.iloc_program.proofs.EndLemmas.{end_there, first_end, later_end, none_passes, none_later}
use Rattle.iloc_program.proofs.lines.line_end.Goals as goal
use Rattle.iloc_program.proofs.lines.line_end.Goals.{then-bytes-ge32+else-ends-gt0+else-later-gt0, else-bytes-ge32}

pub returns-then-ends-gt0 : goal.returns-then-ends-gt0
returns-then-ends-gt0 c =
    end_there c.args.bytes.now _ (first_end 16 c.args.bytes.now (omega arith) (omega arith) (omega arith) _
    c.line_ends-ends.ensures (omega arith))

pub returns-then-later-gt0 : goal.returns-then-later-gt0
returns-then-later-gt0 c =
    let bytes = c.args.bytes.now in
    let none : c.line_ends-ends.result ≡ 0 = omega arith in
    end_there bytes _
    (later_end 16 16 bytes (omega arith) (omega arith) (omega arith)
    (none_passes (is_byte 10) bytes 16 (omega arith) (sym c.line_ends-ends.ensures ∙ none))
    _ c.line_ends-later.ensures (omega arith))

pub line_end_later-requires : goal.line_end_later-requires
line_end_later-requires c = elim c.if-bytes-ge32.branch [
  | then-bytes-ge32+else-ends-gt0+else-later-gt0 w ↦ λ long.
      let bytes = c.args.bytes.now in
      let none : w.line_ends-ends.result ≡ 0 = omega arith in
      let none_later_on : w.line_ends-later.result ≡ 0 = omega arith in
      none_later (is_byte 10) 16 16 bytes (omega arith)
      (none_passes (is_byte 10) bytes 16 (omega arith) (sym w.line_ends-ends.ensures ∙ none))
      (sym w.line_ends-later.ensures ∙ none_later_on)
  | else-bytes-ge32 w ↦ λ long. absurd (omega arith)
]
