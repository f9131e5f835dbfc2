-- What the outline gives was copied.
use Rattle.std.proofs.Common.{take, sym, subst, arith}
use Rattle.iloc_spec_grammar.specs.Syntax.{languages}
use Rattle.iloc_normalize.specs.Modes.{IsNormalText}
use Rattle.locale_web.proofs.normalizing.put_with.Goals as goal

pub returns-in-Outlined : goal.returns-in-Outlined
returns-in-Outlined c =
    let h = c.in-Outlined.ensures in (
      omega arith,
      subst (IsNormalText languages c.args.mode (take c.args.len c.args.window.now))
          (sym (c.copy_outline.ensures.text h.0 h.2)) h.1.meant,
    )
