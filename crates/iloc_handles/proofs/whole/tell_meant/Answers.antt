-- The text means the locale that was parsed, and no other.
use Rattle.iloc_locale.specs.LocaleReading.{value_of}
use Rattle.iloc_handles.specs.Held.{held_locale}
use Rattle.iloc_handles.proofs.Settings.{meant}
use Rattle.iloc_handles.proofs.whole.tell_meant.Goals as goal

pub returns-in-Ok : goal.returns-in-Ok
returns-in-Ok c = (
  c.ask-order.ensures.0,
  meant c.args.text.now (held_locale c.args.handle.now.value) (value_of c.in-Ok.parsed) c.args.same.now
      c.from.result c.ask-order.result c.is_eq.result c.in-Ok.ensures.reads c.ask-order.ensures.1
      c.is_eq.ensures c.from.ensures,
)
