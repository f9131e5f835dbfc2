use Rattle.icu_locale_core.specs.Syntax.{languages}
use Rattle.example_recipes.proofs.WrittenLemmas.{one_output, is_output}
use Rattle.example_recipes.proofs.laws.written.Goals as goal

pub returns-in_err-run-clause-one : goal.returns-in_err-run-clause-one
returns-in_err-run-clause-one c =
    one_output (c.outputs.ensures.only languages c.language_lengths.ensures.wide)

pub returns-clause-one : goal.returns-clause-one
returns-clause-one c = one_output (c.outputs.ensures.only languages c.language_lengths.ensures.wide)

pub returns-clause-this : goal.returns-clause-this
returns-clause-this c =
    is_output (c.outputs.ensures.only languages c.language_lengths.ensures.wide) _ _ _ _ _ _
    c.as_bytes.ensures.value c.new-written.ensures.items c.in_ok-run.ensures.ok
