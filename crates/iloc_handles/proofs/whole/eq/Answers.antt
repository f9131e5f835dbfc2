-- Equal are locales of which neither comes first.
use Rattle.iloc_handles.specs.Held.{held_locale}
use Rattle.iloc_handles.proofs.Settings.{equal_by_order}
use Rattle.iloc_handles.proofs.whole.eq.Goals as goal

pub returns : goal.returns
returns c = (
  c.order_of.ensures.0,
  (
    c.order_of.ensures.1.0,
    equal_by_order (held_locale c.args.handle.now.value)
        (held_locale c.args.other.now.value) c.order_of.result c.is_eq.result c.order_of.ensures.1.1
        c.is_eq.ensures,
  ),
)
