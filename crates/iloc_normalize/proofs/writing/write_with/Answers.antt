use Rattle.std.proofs.Common.{subst}
use Rattle.iloc_pieces.specs.Window.{text_in}
use Rattle.iloc_normalize.specs.Answered.{IsLead}
use Rattle.iloc_normalize.proofs.writing.write_with.Goals as goal

pub returns-in-Refused-clause-written : goal.returns-in-Refused-clause-written
returns-in-Refused-clause-written g c = c.refused.ensures.written c.args.mode _ _
    (subst (IsLead c.args.mode (text_in c.args.text)) c.in-Refused.is c.requires.lead)

pub returns-in-Refused-clause-refused : goal.returns-in-Refused-clause-refused
returns-in-Refused-clause-refused g c = λ e. absurd (c.refused.ensures.some c.args.mode _
    (subst (IsLead c.args.mode (text_in c.args.text)) c.in-Refused.is c.requires.lead) e)
