use Rattle.example_message_catalogue.proofs.TextLemmas.{same_text}
use Rattle.example_message_catalogue.proofs.prints.Goals as goal

pub returns : goal.returns
returns c = same_text _ _ c.strict_cmp.result c.is_eq.result c.strict_cmp.ensures c.is_eq.ensures
