-- The box of a change was refused.
use Rattle.std.proofs.Common.{refl, sym, true≢false}
use Rattle.std.specs.Prelude.{None}
use Rattle.iloc_handles.proofs.Settings.{lacks_box}
use Rattle.iloc_handles.proofs.asking.change_und.Goals as goal

pub returns-clause-changed : goal.returns-clause-changed
returns-clause-changed g c =
    lacks_box (g.C.Change.changes c.args.change.now) None c.args.handle.now.value c.unknown-locale.result
    c.apply-status.new.locale c.apply-status.result refl c.requires c.unknown-locale.ensures
    c.apply-status.ensures
    (λ is. true≢false (sym (c.if-is_und.ensures.1 is)))
