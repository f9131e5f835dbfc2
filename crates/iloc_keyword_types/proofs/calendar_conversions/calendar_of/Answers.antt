use Rattle.std.proofs.Common.{List, length, ◌<◌, ◌≤◌, subst}
use Rattle.iloc_keyword_types.proofs.CalendarLemmas.{below_one, from_four}
use Rattle.iloc_keyword_types.proofs.calendar_conversions.calendar_of.Goals as goal
use Rattle.iloc_spec_grammar.specs.Syntax.{Text}

pub returns-in-empty : goal.returns-in-empty
returns-in-empty c = below_one c.args.value.now
    (subst (λ (ws : List Text). length ws < 1) c.as_subtags_slice.ensures.subtags c.in-empty.len_below)

pub returns-in-len4-up : goal.returns-in-len4-up
returns-in-len4-up c = from_four c.args.value.now (subst (λ (ws : List Text). 4 ≤ length ws)
    c.as_subtags_slice.ensures.subtags c.in-len4-up.len_at_least)
