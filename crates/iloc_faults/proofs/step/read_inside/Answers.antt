use Rattle.std.proofs.Common.{arith, sym, ◌∙◌, option_map}
use Rattle.iloc_faults.proofs.StepReadings.{key_read, key_read_after, start_read, language_read, head_read, source_read, other_read}
use Rattle.iloc_faults.proofs.step.read_inside.Goals as goal

pub returns-then-is_field_key : goal.returns-then-is_field_key
returns-then-is_field_key g c vs seen h = grind (arith, key_read)

pub returns-then-is_field_key-2 : goal.returns-then-is_field_key-2
returns-then-is_field_key-2 g c vs seen h = grind (arith, key_read_after)

pub returns-in-Start : goal.returns-in-Start
returns-in-Start g c vs seen h = grind (arith, start_read, option_map)

pub returns-in-Some : goal.returns-in-Some
returns-in-Some g c vs seen h =
    head_read c.args.mode c.args.at c.args.state.part vs seen c.args.state.seen h.seen_are c.in-Head.stage
    c.in-Head.is (c.in-Some.stage, c.in-Some.variants)
    (c.in-Some.ensures vs h.variants_are)

pub returns-else-is_field_key : goal.returns-else-is_field_key
returns-else-is_field_key g c vs seen h = grind (arith, language_read, option_map)

pub returns-in-Some-read_word : goal.returns-in-Some-read_word
returns-in-Some-read_word g c vs seen h =
    source_read c.args.mode c.args.at c.args.state.part vs seen c.args.state.seen h.seen_are c.in-Source.stage
    c.in-Source.is (sym c.is_field_key-in-Source.ensures ∙ c.if-is_field_key-2.false)
    (c.in-Some-read_word.stage, c.in-Some-read_word.variants) (c.in-Some-read_word.ensures vs h.variants_are)

pub returns-in_default : goal.returns-in_default
returns-in_default g c vs seen h = grind (arith, other_read, option_map)
