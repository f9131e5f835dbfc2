use Rattle.std.proofs.Common.{take}
use Rattle.iloc_spec_grammar.specs.Syntax.{languages}
use Rattle.iloc_spec_grammar.specs.Values.{text}
use Rattle.iloc_spec_grammar.proofs.AnySteps.{shortest}
use Rattle.test_word_rows.proofs.outlines.locale.Goals as goal

pub normal-requires-clause-gives : goal.normal-requires-clause-gives
normal-requires-clause-gives c =
    let h = c.in-Normal.ensures.outlined in
    record {
      normal = text h.0;
      gives = h.2;
      few = shortest languages (take c.args.len c.args.window.now) h.0 h.1;
    }
