use Rattle.std.proofs.Common.{arith}
use Rattle.iloc_program.proofs.EndLemmas.{end_there, later_end}
use Rattle.iloc_program.proofs.lines.line_end_later.Goals as goal

pub returns-then-ends-gt0 : goal.returns-then-ends-gt0
returns-then-ends-gt0 c =
    end_there c.args.bytes.now _ (later_end 32 32 c.args.bytes.now (omega arith) (omega arith) (omega arith)
    (c.requires (omega arith)) _ c.wide_line_ends-ends.ensures (omega arith))
