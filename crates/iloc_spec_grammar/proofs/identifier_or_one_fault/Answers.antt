-- By cases on the first piece and on the reading.
use Rattle.iloc_spec_grammar.proofs.IdentifierTexts.{text_identifier_or_fault, head_identifier_or_fault, identifier_apart, one_identifier_fault}
use Rattle.iloc_spec_grammar.proofs.identifier_or_one_fault.Goals as goal

pub returns : goal.returns
returns c =
    search (text_identifier_or_fault, head_identifier_or_fault, identifier_apart, one_identifier_fault)
