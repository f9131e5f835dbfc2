use Rattle.std.proofs.Common.{ℕ, take, subst, arith}
use Rattle.std.proofs.lemmas.List.{length-take-le}
use Rattle.iloc_normalize.specs.Answered.{HasRefusal}
use Rattle.iloc_normalize.specs.declared.Mode.TheVariants.{Data}
use Rattle.iloc_normalize.proofs.FrontAnswers.{data_meant}
use Rattle.iloc_normalize.proofs.Texts.{alone_text}
use Rattle.iloc_normalize.proofs.data_writing.write_data.Goals as goal

pub read_data-requires-clause-begins : goal.read_data-requires-clause-begins
read_data-requires-clause-begins c = grind arith

pub returns-in-Head-clause-written : goal.returns-in-Head-clause-written
returns-in-Head-clause-written c = grind (arith, length-take-le, data_meant, alone_text)

pub write_named-requires-clause-value : goal.write_named-requires-clause-value
write_named-requires-clause-value c = grind arith

pub returns-in-Named-clause-written : goal.returns-in-Named-clause-written
returns-in-Named-clause-written c = grind (arith, length-take-le, data_meant)

pub returns-in-Refused-clause-written : goal.returns-in-Refused-clause-written
returns-in-Refused-clause-written c = c.refused.ensures.written Data _ _ (grind arith)

pub returns-in-Refused-clause-some : goal.returns-in-Refused-clause-some
returns-in-Refused-clause-some c = c.refused.ensures.some Data _
    (subst (λ (m : ℕ). HasRefusal Data (take m c.args.text.bytes.now) c.in-Refused.error) c.len.ensures
    c.in-Refused.ensures)
