use Rattle.iloc_normalize.proofs.FrontAnswers.{found_is_refused}
use Rattle.iloc_pieces.specs.Window.{text_in}
use Rattle.iloc_normalize.proofs.leads.lead_of_identifier.Goals as goal

pub returns-in-Some : goal.returns-in-Some
returns-in-Some c = found_is_refused (text_in c.args.text) _ c.in-Some.ensures
