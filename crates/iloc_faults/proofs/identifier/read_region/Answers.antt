use Rattle.std.proofs.Common.{sym, ◌∙◌}
use Rattle.iloc_faults.proofs.StepReadings.{region_read}
use Rattle.iloc_faults.proofs.identifier.read_region.Goals as goal

pub returns-then-is_region : goal.returns-then-is_region
returns-then-is_region g c = region_read c.args.mode c.args.at (sym c.is_region.ensures ∙ c.if-is_region.true)
