use Rattle.std.proofs.Common.{sym, ap, ◌==◌, ◌∙◌}
use Rattle.iloc_subtags.specs.Left.{left}
use Rattle.iloc_unicode.proofs.UnicodeLemmas.{begins_at, begins_nowhere}
use Rattle.iloc_unicode.proofs.reader.takes_u.Goals as goal
use Rattle.iloc_spec_grammar.specs.Syntax.{code_u}

pub returns-in-Some-clause-u : goal.returns-in-Some-clause-u
returns-in-Some-clause-u c = ap (λ n. n == code_u) c.to_ascii_lowercase.ensures.value
    ∙ begins_at (left c.args.iter.now) c.in-Some.letter c.in-Some.ensures.byte

pub returns-in-None-clause-u : goal.returns-in-None-clause-u
returns-in-None-clause-u c = sym (begins_nowhere (left c.args.iter.now) c.in-None.ensures.byte)
