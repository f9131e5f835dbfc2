-- From reading back.
use Rattle.iloc_spec_grammar.proofs.IdentifierTexts.{identifier_means_value, identifier_text_means, identifier_means_again, same_identifier_text, same_identifier_meaning}
use Rattle.iloc_spec_grammar.proofs.identifier_texts.Goals as goal

pub returns : goal.returns
returns c = search (
  identifier_means_value,
  identifier_text_means,
  identifier_means_again,
  same_identifier_text,
  same_identifier_meaning,
)
