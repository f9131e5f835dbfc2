-- Where the data locale has a payload of its own, nothing else is asked for.
use Rattle.std.proofs.Common.{◌≡◌}
use Rattle.std.specs.HashMap.{ContainsKey}
use Rattle.icu_locale_core.specs.DataEquality.{same_key}
use Rattle.example_recipes.proofs.providing.load.Given as goal

abbrev pub invariant-loop : goal.invariant-loop
invariant-loop l = ContainsKey same_key l.payloads l.fn.locale → l.asked ≡ l.fn.locale
