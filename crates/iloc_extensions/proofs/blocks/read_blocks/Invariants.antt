-- The blocks so far were read, and the others are left. Each other extension had a piece.
use Rattle.std.proofs.Common.{◌+◌, ◌≤◌, length}
use Rattle.iloc_spec_grammar.specs.Syntax.{languages}
use Rattle.iloc_subtags.specs.Left.{left}
use Rattle.iloc_extensions.specs.ExtensionsValue.{value_of}
use Rattle.iloc_extensions.specs.Blocks.{BlocksDone}
use Rattle.iloc_extensions.proofs.blocks.read_blocks.Given as goal

abbrev pub decreases-blocks-2 : goal.decreases-blocks-2
decreases-blocks-2 g l = length (left l.iter)

abbrev pub invariant-blocks-2 : goal.invariant-blocks-2
invariant-blocks-2 g l = record {
  done : BlocksDone languages (left l.initial.iter) (left l.iter) (value_of l.extensions);
  room : length l.extensions.other.items + length (left l.iter) ≤ length (left l.initial.iter);
}
