-- The priority that is found is the one of the number.
use Rattle.std.proofs.Common.{rules}
use Rattle.icu_locale_c.proofs.Priorities.{by_priority}
use Rattle.icu_locale_c.proofs.data.icu_locale_data_cmp_bytes.Goals as goal

pub returns-in-Some : goal.returns-in-Some
returns-in-Some c = (
  c.ask.ensures.0,
  by_priority c.args.priority c.from_number.result c.in-Some.priority _ _ c.number-in-Some.result
      c.from_number.ensures c.in-Some.is (c.number-in-Some.ensures, search rules),
)
