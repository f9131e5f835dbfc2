-- Line by line.
use Rattle.iloc_program.proofs.OutputLaws.{is_output, only_output}
use Rattle.iloc_program.proofs.laws.outputs.Goals as goal

pub returns : goal.returns
returns c = record { is = λ T table. is_output table; only = λ T table. only_output table }
