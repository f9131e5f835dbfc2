-- A plain text means something in each mode.
use Rattle.iloc_spec_grammar.specs.Values.{identifier_text}
use Rattle.iloc_pieces.specs.Plain.{value_of}
use Rattle.iloc_normalize.proofs.PlainAnswers.{plain_normal}
use Rattle.iloc_calls.proofs.answers.judge.Goals as goal

pub returns-in-Some : goal.returns-in-Some
returns-in-Some c = (
  identifier_text (value_of c.in-Some.field-0),
  plain_normal c.args.mode c.args.text.now c.in-Some.field-0 c.in-Some.ensures,
)
