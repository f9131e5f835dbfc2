use Rattle.std.proofs.Common.{◌++◌, sym, ap, ◌∙◌, arith}
use Rattle.std.proofs.lemmas.Result.{on_ok_weaker}
use Rattle.iloc_spec_grammar.specs.Syntax.{Text}
use Rattle.iloc_program.specs.ReplyBlock.{held}
use Rattle.iloc_program.proofs.DigitLemmas.{one_digit, two_digits}
use Rattle.iloc_program.proofs.quoting.write_decimal.Goals as goal

pub returns-then-number-lt10-clause-ok : goal.returns-then-number-lt10-clause-ok
returns-then-number-lt10-clause-ok g c =
    let digits = one_digit c.args.number c.unit-digit.result (omega arith) c.unit-digit.ensures in
    on_ok_weaker c.push.result (λ e. e ∙ ap (λ (t : Text). held c.args.replies.now ++ t) (sym digits))
    c.push.ensures.ok

pub returns-then-number-lt100-clause-ok : goal.returns-then-number-lt100-clause-ok
returns-then-number-lt100-clause-ok g c =
    let digits = two_digits c.args.number c.unit-tens.result c.unit-units.result (omega arith) (omega arith)
    c.unit-tens.ensures c.unit-units.ensures in
    on_ok_weaker c.push_first.result (λ e. e ∙ ap (λ (t : Text). held c.args.replies.now ++ t) (sym digits))
    c.push_first.ensures.ok
