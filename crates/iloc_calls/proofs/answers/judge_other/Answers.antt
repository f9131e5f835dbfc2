-- A text that has a normal text means something.
use Rattle.iloc_calls.proofs.answers.judge_other.Goals as goal

pub returns-in-Normal : goal.returns-in-Normal
returns-in-Normal c = (_, c.in-Normal.ensures.answered)
