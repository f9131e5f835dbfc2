use Rattle.std.proofs.Common.{drop}
use Rattle.std.proofs.lemmas.List.{take-take}
use Rattle.iloc_pieces.proofs.marks.load_at.Goals as goal

pub returns-then-window-at-ge16-clause-front : goal.returns-then-window-at-ge16-clause-front
returns-then-window-at-ge16-clause-front c = λ k few _. take-take k 16 (drop c.args.at c.args.window.now) few
