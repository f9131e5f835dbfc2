use Rattle.std.proofs.Common.{◌≤◌, length, arith}
use Rattle.example_recipes.proofs.laws.spared.Goals as goal

-- eight steps lead to the normal text
pub overflow_sub-result : goal.overflow_sub-result
overflow_sub-result c = c.any_steps.ensures.shorten _ 8 _ _ c.requires.steps

pub returns-clause-fewer : goal.returns-clause-fewer
returns-clause-fewer c =
    let shorter : length c.args.normal.now ≤ length c.args.text.now
    = c.any_steps.ensures.shorten _ 8 _ _ c.requires.steps in
    omega (arith, shorter)
