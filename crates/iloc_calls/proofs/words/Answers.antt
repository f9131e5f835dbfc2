-- The status that is found is the one of the number.
use Rattle.std.proofs.Common.{subst}
use Rattle.iloc_calls.specs.Answers.{HandsOut}
use Rattle.iloc_calls.proofs.ByNumbers.{by_status}
use Rattle.iloc_calls.proofs.words.Goals as goal

pub returns-in-Some : goal.returns-in-Some
returns-in-Some c =
    by_status c.args.status c.from_number.result c.in-Some.status _ _ c.number.result c.from_number.ensures
    c.in-Some.is (
      c.hand_out.result,
      c.number.ensures,
      subst (λ t. HandsOut t c.args.buffer.now c.hand_out.new.buffer c.hand_out.new.needed c.hand_out.result)
          c.words.ensures c.hand_out.ensures,
    )
