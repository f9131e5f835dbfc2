use Rattle.std.proofs.Common.{◌≡◌, ◌≤◌, length, reverse}
use Rattle.iloc_spec_grammar.specs.Meaning.{map_of}
use Rattle.iloc_litemap.proofs.map.LiteMap.from_pairs_in.Given as goal

abbrev pub invariant-loop-key : goal.invariant-loop-key
invariant-loop-key g l = record {
  can : (goal.iterator-loop-key g).can_next l.key-iterator;
  finite : (goal.iterator-loop-key g).is_finite l.key-iterator;
  pairs : l.map ≡ map_of g.K.Ord.cmp (reverse l.yielded);
  few : length l.map ≤ length l.yielded;
}
