-- The mode that is found is the one of the number.
use Rattle.iloc_calls.proofs.ByNumbers.{by_mode}
use Rattle.iloc_text_calls.proofs.lines.normalize_lines.Goals as goal

pub returns-in-Some : goal.returns-in-Some
returns-in-Some c =
    by_mode c.args.mode c.mode_of.result c.in-Some.mode _ _ c.number.result c.mode_of.ensures c.in-Some.is
    (c.answer_lines.result, c.number.ensures, c.answer_lines.ensures)
