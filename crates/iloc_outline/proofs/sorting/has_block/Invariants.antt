use Rattle.std.proofs.Common.{◌≡◌, false, take}
use Rattle.std.specs.List.{list_any}
use Rattle.iloc_outline.proofs.GroupsLemmas.{is_of_rank}
use Rattle.iloc_outline.proofs.sorting.has_block.Given as goal

-- none of the spans so far is the block's
abbrev pub invariant-loop-i : goal.invariant-loop-i
invariant-loop-i l = list_any (λ s. is_of_rank l.rank s.role s.word) (take l.i l.held) ≡ false
