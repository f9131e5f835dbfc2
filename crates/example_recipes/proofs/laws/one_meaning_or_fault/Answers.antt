use Rattle.icu_locale_core.specs.Syntax.{languages}
use Rattle.example_recipes.proofs.JudgedLemmas.{judged}
use Rattle.example_recipes.proofs.laws.one_meaning_or_fault.Goals as goal

pub returns : goal.returns
returns c = judged (record {
  either = c.accepted_or_one_fault.ensures.either languages;
  apart = c.accepted_or_one_fault.ensures.apart languages c.language_lengths.ensures.wide;
  one_meaning = c.one_meaning.ensures languages c.language_lengths.ensures.wide;
  one_fault = c.accepted_or_one_fault.ensures.one languages;
})
