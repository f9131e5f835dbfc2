-- The hour cycle that is read is told by its word.
use Rattle.std.proofs.Common.{Some, [], option_map, slice_get, sym, ap, ◌∙◌, subst}
use Rattle.std.specs.Prelude.{unwrap_or}
use Rattle.iloc_spec_parts.specs.Keywords.{EnumValue, HourCycle, variants}
use Rattle.iloc_locale.specs.LocaleReading.{value_of}
use Rattle.iloc_calls.specs.Answers.{Tells}
use Rattle.iloc_data.specs.FormatterValues.{hours_value}
use Rattle.iloc_handles.specs.Parts.{text_of_part}
use Rattle.iloc_handles.proofs.parts.NamedPart.hand_out.Goals as goal

pub returns-in-Some-hour_cycle : goal.returns-in-Some-hour_cycle
returns-in-Some-hour_cycle c =
    let M = value_of c.args.locale.now in
    let out = c.hand_out-in-Some-hour_cycle in
    let word = λ (v : EnumValue). unwrap_or (slice_get (variants HourCycle) v.0) [] in
    let read = ap (λ p. option_map word p.time.hour_cycle) c.from-in-HourCycle.ensures in
    let told = ap (λ w. Some w) c.as_str-in-Some-hour_cycle.ensures
    ∙ sym (ap (λ h. option_map word (option_map hours_value h)) c.in-Some-hour_cycle.is) ∙ read in
    subst (λ part. Tells (text_of_part part M) c.args.buffer.now out.new.buffer out.new.needed out.result)
    (sym c.in-HourCycle.is)
    (subst (λ o. Tells o c.args.buffer.now out.new.buffer out.new.needed out.result) told out.ensures)
