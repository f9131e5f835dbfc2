use Rattle.std.proofs.Common.{refl}
use Rattle.iloc_spec_grammar.specs.Values.{identifier_text}
use Rattle.iloc_pieces.specs.Plain.{value_of}
use Rattle.iloc_pieces.specs.Window.{text_in}
use Rattle.iloc_normalize.proofs.FrontAnswers.{no_language_refused}
use Rattle.iloc_normalize.proofs.PlainAnswers.{plain_normal}
use Rattle.iloc_program.proofs.lines.answer_in.Goals as goal

pub returns-then-not-may_begin-clause-ok : goal.returns-then-not-may_begin-clause-ok
returns-then-not-may_begin-clause-ok g c = (
  no_language_refused c.args.mode (text_in c.args.line) (c.may_begin.ensures c.if-not-may_begin.true),
  refl,
)

pub returns-in-Some-clause-ok : goal.returns-in-Some-clause-ok
returns-in-Some-clause-ok g c = (
  identifier_text (value_of c.in-Some.plain),
  plain_normal c.args.mode (text_in c.args.line) c.in-Some.plain c.in-Some.ensures,
  c.in_ok-push_plain.ensures.ok,
)
