-- From the bytes of an answer.
use Rattle.iloc_program.proofs.AnswerLines.{answers_back, normal_no_mark}
use Rattle.iloc_program.proofs.laws.answers_are_lines.Goals as goal

pub returns : goal.returns
returns c = record { lines = answers_back; normal = normal_no_mark }
