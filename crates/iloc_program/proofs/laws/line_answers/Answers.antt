-- From what the line is read as.
use Rattle.iloc_program.proofs.OutputLaws.{is_answer, only_answer}
use Rattle.iloc_program.proofs.laws.line_answers.Goals as goal

pub returns : goal.returns
returns c = record { is = λ T table. is_answer table; only = λ T table. only_answer table }
