use Rattle.std.proofs.Common.{◌≡◌, Ok, ap, sym, ◌∙◌, arith}
use Rattle.iloc_memory.proofs.Within.{within_more}
use Rattle.iloc_pieces.specs.Window.{text_in}
use Rattle.iloc_normalize.specs.declared.writing.Written.TheVariants.{Nothing}
use Rattle.iloc_program.proofs.RoomLemmas.{nothing_written, pieces_fit}
use Rattle.iloc_program.proofs.lines.answer_as.Goals as goal

-- room for spans was refused
pub returns-in-None-clause-out_of_memory : goal.returns-in-None-clause-out_of_memory
returns-in-None-clause-out_of_memory g c =
    let is : c.in_ok-written.written ≡ Nothing =
    nothing_written c.in_ok-written.written c.in_default-2.not-Normal
    (sym c.refusal.ensures ∙ c.in-None.is) in
    let fits = pieces_fit (text_in c.args.line) in
    within_more g.M.Memory.refused _ _ (omega (arith, fits)) (c.in_ok-written.ensures.nothing (ap Ok is))
