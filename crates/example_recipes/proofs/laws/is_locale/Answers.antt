use Rattle.std.proofs.Common.{refl, subst}
use Rattle.example_recipes.specs.Judged.{HasOneMeaning, HasOneFault}
use Rattle.example_recipes.proofs.JudgedLemmas.{accepted, refused}
use Rattle.example_recipes.proofs.laws.is_locale.Goals as goal

pub returns-in-None-clause-yes : goal.returns-in-None-clause-yes
returns-in-None-clause-yes c = λ _. subst HasOneMeaning c.as_bytes.ensures.value
    (accepted c.one_meaning_or_fault.ensures _ (c.in-None.ensures.accepted.0 refl))

pub returns-in-Some-clause-no : goal.returns-in-Some-clause-no
returns-in-Some-clause-no c = λ _. subst HasOneFault c.as_bytes.ensures.value
    (refused c.one_meaning_or_fault.ensures _
    (λ means. let is_none = c.in-Some.ensures.accepted.1 means in cc))
