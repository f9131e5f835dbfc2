use Rattle.std.proofs.Common.{sym, ap, ◌∙◌, Some, option_map}
use Rattle.iloc_keyword_types.proofs.EnumLemmas.{variant}
use Rattle.iloc_keyword_types.proofs.CalendarLemmas.{old_form, plain_form}
use Rattle.iloc_keyword_types.proofs.calendar_conversions.of_one.Goals as goal

pub returns-then-eq : goal.returns-then-eq
returns-then-eq c = sym (old_form c.args.word.now (sym c.if-eq.ensures))

pub returns-in-Some : goal.returns-in-Some
returns-in-Some c = ap Some c.of_any_kind.ensures ∙ ap (option_map variant) c.in-Some.ensures
    ∙ sym (plain_form c.args.word.now (sym c.if-eq.ensures))

pub returns-in-None : goal.returns-in-None
returns-in-None c =
    ap (option_map variant) c.in-None.ensures ∙ sym (plain_form c.args.word.now (sym c.if-eq.ensures))
