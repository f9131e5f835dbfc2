-- The first subtags stay.
use Rattle.std.proofs.Common.{length}
use Rattle.iloc_word_list.proofs.CutLemmas.{Cut}
use Rattle.iloc_word_list.proofs.value.Value.cut.Given as goal

abbrev pub invariant-loop-self : goal.invariant-loop-self
invariant-loop-self l = Cut l.count l.initial.self l.self

abbrev pub decreases-loop-self : goal.decreases-loop-self
decreases-loop-self l = length l.self
