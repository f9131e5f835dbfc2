use Rattle.std.proofs.Common.{◌≡◌, length}
use Rattle.iloc_subtags.specs.Left.{left}
use Rattle.iloc_langid.specs.Agreeing.{are_all_among}
use Rattle.iloc_langid.proofs.WalkLemmas.{are_found}
use Rattle.iloc_langid.proofs.agreeing.has_block.Given as goal

abbrev pub invariant-loop-piece : goal.invariant-loop-piece
invariant-loop-piece g l = (length l.found ≡ g.row.N)
    × (are_found (left l.piece-iterator) l.block l.found ≡ are_all_among (left l.fn.iter) l.block)
