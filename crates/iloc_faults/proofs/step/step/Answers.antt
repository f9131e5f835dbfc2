use Rattle.std.proofs.Common.{sym, ◌∙◌}
use Rattle.iloc_faults.proofs.StepReadings.{begins_read, inside_read}
use Rattle.iloc_faults.proofs.step.step.Goals as goal

pub returns-then-begins_block : goal.returns-then-begins_block
returns-then-begins_block g c vs seen h =
    begins_read c.args.mode c.args.at c.args.state.part vs seen
    (sym c.begins_block.ensures ∙ c.if-begins_block.true) c.read_singleton.result
    (c.read_singleton.ensures vs seen h)

pub returns : goal.returns
returns g c vs seen h =
    inside_read c.args.mode c.args.at c.args.state.part vs seen
    (sym c.begins_block.ensures ∙ c.if-begins_block.false) c.read_inside.result
    (c.read_inside.ensures vs seen h)
