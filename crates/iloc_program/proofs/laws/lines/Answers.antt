-- Byte by byte.
use Rattle.iloc_program.proofs.LineLaws.{reads_ended, reads_open, is_ended_or_open}
use Rattle.iloc_program.proofs.LineCuts.{output-line, output-last, output-cut}
use Rattle.iloc_program.proofs.laws.lines.Goals as goal

pub returns : goal.returns
returns c = record {
  ended = reads_ended;
  «open» = reads_open;
  all = is_ended_or_open;
  line = output-line;
  last = output-last;
  cut = output-cut;
}
