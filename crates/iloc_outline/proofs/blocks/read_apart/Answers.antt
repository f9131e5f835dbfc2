-- What follows `x`.
use Rattle.std.proofs.Common.{◌==◌, sym, ap, ◌∙◌}
use Rattle.iloc_outline.proofs.blocks.read_apart.Goals as goal
use Rattle.iloc_spec_grammar.specs.Syntax.{code_x}

pub returns-in-120-clause-read : goal.returns-in-120-clause-read
returns-in-120-clause-read g c = λ k e s.
    let r = c.read_private in
    rw (← (sym (ap (λ n. n == code_x) (e ∙ c.in-120.is))))
    (r.ensures.read k (e ∙ c.in-120.is) s c.args.in_order.now)
