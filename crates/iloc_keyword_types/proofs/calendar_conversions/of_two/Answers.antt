use Rattle.std.proofs.Common.{sym, ap, ◌∙◌, option_map}
use Rattle.iloc_keyword_types.proofs.CalendarLemmas.{no_kind, with_kind, of_kind}
use Rattle.iloc_keyword_types.proofs.calendar_conversions.of_two.Goals as goal

pub returns-in-Some : goal.returns-in-Some
returns-in-Some c = ap (option_map of_kind) c.in-Some.ensures
    ∙ sym (with_kind c.args.first.now c.args.kind.now (sym c.if-eq.ensures))

pub returns-in-None : goal.returns-in-None
returns-in-None c = ap (option_map of_kind) c.in-None.ensures
    ∙ sym (with_kind c.args.first.now c.args.kind.now (sym c.if-eq.ensures))

pub returns-else-eq : goal.returns-else-eq
returns-else-eq c = sym (no_kind c.args.first.now c.args.kind.now (sym c.if-eq.ensures))
