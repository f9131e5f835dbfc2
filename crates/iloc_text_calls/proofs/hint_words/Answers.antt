-- The hint that is found is the one of the number.
use Rattle.std.proofs.Common.{ap, subst, sym, ◌∙◌}
use Rattle.std.specs.Option.{unwrap_or}
use Rattle.iloc_hints.specs.Hints.{hint_words}
use Rattle.iloc_hints.specs.declared.hints.Hint.{Hint}
use Rattle.iloc_calls.specs.Answers.{HandsOut}
use Rattle.iloc_text_calls.proofs.hint_words.Goals as goal

pub returns-in-Some : goal.returns-in-Some
returns-in-Some c = record {
  known = λ hint is.
      let same = ap (λ o. unwrap_or o hint) (sym c.in-Some.is ∙ (c.hint_of.ensures hint).1 is) in (
        c.hand_out.result,
        c.number.ensures,
        subst (λ (it : Hint). HandsOut (hint_words it) c.args.buffer.now c.hand_out.new.buffer
            c.hand_out.new.needed c.hand_out.result) same
            (subst (λ t. HandsOut t c.args.buffer.now c.hand_out.new.buffer c.hand_out.new.needed
            c.hand_out.result) c.words.ensures c.hand_out.ensures),
      );
  unknown = λ no. absurd (no c.in-Some.hint ((c.hint_of.ensures c.in-Some.hint).0 c.in-Some.is));
}
