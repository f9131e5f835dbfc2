use Rattle.std.proofs.Common.{arith}
use Rattle.iloc_normalize.proofs.Refusals.{read_accepted, read_refused, unbegun}
use Rattle.iloc_normalize.proofs.data.data_refusal.Goals as goal

pub returns-then-not-begins_with_language : goal.returns-then-not-begins_with_language
returns-then-not-begins_with_language c =
    let r = unbegun c.args.text.now c.begins_with_language.result c.begins_with_language.ensures
    c.if-not-begins_with_language.true in
    record { accepted = r.0; refused = r.1 }

pub returns-in-Refused : goal.returns-in-Refused
returns-in-Refused c =
    let r = read_refused c.args.text.now c.in-Refused.error c.in-Refused.ensures in
    record { accepted = r.0; refused = r.1 }

pub returns-in-Head : goal.returns-in-Head
returns-in-Head c = grind (arith, read_accepted)
