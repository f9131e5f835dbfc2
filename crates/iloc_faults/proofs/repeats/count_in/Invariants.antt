use Rattle.std.proofs.Common.{◌≤◌, ◌-◌, length, map}
use Rattle.iloc_pieces.specs.Words.{word_number}
use Rattle.iloc_faults.specs.States.{variants_left}
use Rattle.iloc_faults.proofs.Chunks.{IsCompared}
use Rattle.iloc_faults.proofs.repeats.count_in.Given as goal

-- the words before the place are compared with all, and a chunk has a place for its words
abbrev pub invariant-chunks : goal.invariant-chunks
invariant-chunks l = IsCompared (map word_number (variants_left l.fn.first)) l.at l.done l.fresh
    × (1 ≤ l.size) × (l.size ≤ length l.fn.words)

abbrev pub decreases-chunks : goal.decreases-chunks
decreases-chunks l = l.fresh - l.done
