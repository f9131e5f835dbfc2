-- The set that is found is the one of the number.
use Rattle.std.proofs.Common.{arith, refl, subst, sym, ◌∙◌}
use Rattle.iloc_expected.specs.Words.{words_of}
use Rattle.iloc_expected.specs.declared.kinds.Expected.{Expected}
use Rattle.iloc_calls.specs.Answers.{HandsOut}
use Rattle.iloc_text_calls.specs.Advice.{kinds_of}
use Rattle.iloc_text_calls.proofs.expected_words.Goals as goal

pub returns-in-Some : goal.returns-in-Some
returns-in-Some c =
    let found = (c.kinds_of.ensures c.in-Some.set).0 c.in-Some.is in
    let near = found.0 in
    record {
      known = λ small. (
        c.hand_out.result,
        c.number.ensures,
        subst (λ (set : Expected). HandsOut (words_of set) c.args.buffer.now c.hand_out.new.buffer
            c.hand_out.new.needed c.hand_out.result) found.1 c.hand_out.ensures,
      );
      unknown = λ far. absurd (omega (arith, near, far));
    }

pub returns-in-None : goal.returns-in-None
returns-in-None c = record {
  known = λ small.
      let none = sym c.in-None.is ∙ (c.kinds_of.ensures (kinds_of c.args.kinds)).1 (small, refl) in cc;
  unknown = λ far. (c.number-in-None.ensures, refl, refl);
}
