use Rattle.std.proofs.Common.{sym, ◌∙◌}
use Rattle.example_negotiate.proofs.is_there.Goals as goal

-- the one that is equal is there
pub returns-then-eq : goal.returns-then-eq
returns-then-eq c = λ _. (
  c.loop-one.one-index,
  c.one-item.result,
  c.loop-one-test.true,
  sym c.one-item.is,
  (c.equality.ensures.identifiers c.one-item.result.id c.args.wanted.now).0 (sym c.eq.ensures ∙ c.if-eq.true),
)
