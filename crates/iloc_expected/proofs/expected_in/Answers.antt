use Rattle.std.proofs.Common.{take, length-take, true≢false, sym, ◌∙◌, subst, arith}
use Rattle.iloc_spec_grammar.specs.Syntax.{Text, pieces}
use Rattle.iloc_expected.specs.Standing.{AreExpected, MayStand, without_empty}
use Rattle.iloc_expected.proofs.Sets.{none_stand}
use Rattle.iloc_expected.proofs.SetBits.{none_has}
use Rattle.iloc_expected.proofs.Walk.{few_pieces, same_cut}
use Rattle.iloc_expected.proofs.expected_in.Goals as goal

pub returns-in-Some-clause-exact : goal.returns-in-Some-clause-exact
returns-in-Some-clause-exact g c few = grind (arith, few_pieces, length-take, same_cut)

pub returns-in-None-clause-all : goal.returns-in-None-clause-all
returns-in-None-clause-all g c kind m = grind (arith, none_stand, same_cut)

pub returns-in-None-clause-exact : goal.returns-in-None-clause-exact
returns-in-None-clause-exact g c few kind = grind (arith, none_has, none_stand, same_cut)
