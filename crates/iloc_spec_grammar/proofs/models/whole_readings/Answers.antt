-- From the laws of each reading.
use Rattle.iloc_spec_grammar.proofs.IdentifierLaws.{identifier_of-pieces, pieces-identifier_of}
use Rattle.iloc_spec_grammar.proofs.ReadingLaws.{front_of-pieces, pieces-front_of}
use Rattle.iloc_spec_grammar.proofs.Readings.{unicode_read, pieces-unicode_of, transform_read, pieces-transform_of}
use Rattle.iloc_spec_grammar.proofs.models.whole_readings.Goals as goal

pub returns : goal.returns
returns c = search (
  front_of-pieces,
  pieces-front_of,
  identifier_of-pieces,
  pieces-identifier_of,
  unicode_read,
  pieces-unicode_of,
  transform_read,
  pieces-transform_of,
)
