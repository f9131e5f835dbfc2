-- The priority that is found is the one of the number.
use Rattle.std.proofs.Common.{subst}
use Rattle.iloc_spec_parts.specs.DataLocales.{DataLocale, data_text}
use Rattle.iloc_calls.specs.Answers.{HandsOut}
use Rattle.icu_locale_c.proofs.Priorities.{by_priority}
use Rattle.icu_locale_c.proofs.data.icu_locale_get_data_locale.Goals as goal

pub returns-in-Some : goal.returns-in-Some
returns-in-Some c = (
  c.ask.ensures.0,
  by_priority c.args.priority c.from_number.result c.in-Some.priority _ _ c.number.result
      c.from_number.ensures c.in-Some.is (
        c.hand_out.result,
        c.number.ensures,
        subst (λ (d : DataLocale). HandsOut (data_text d) c.args.buffer.now c.hand_out.new.buffer
            c.hand_out.new.needed c.hand_out.result) c.ask.ensures.1 c.hand_out.ensures,
      ),
)
