use Rattle.std.proofs.Common.{◌≡◌, length, take, arith}
use Rattle.iloc_spec_grammar.specs.Syntax.{languages}
use Rattle.iloc_spec_grammar.specs.Values.{identifier_text}
use Rattle.iloc_spec_grammar.proofs.AnySteps.{length-identifier_means}
use Rattle.test_word_rows.proofs.outlines.langid.Goals as goal

pub normal-requires-clause-gives : goal.normal-requires-clause-gives
normal-requires-clause-gives c =
    let (i, m, g) = c.in-Normal.ensures.outlined in
    let long : length (identifier_text i) ≡ length (take c.args.len c.args.window.now) =
    length-identifier_means languages (take c.args.len c.args.window.now) i m in
    record { normal = identifier_text i; gives = g; few = omega arith }
