use Rattle.std.proofs.Common.{drop}
use Rattle.std.specs.List.{AllByRecursion}
use Rattle.iloc_spec_grammar.specs.Values.{IsNormal}
use Rattle.iloc_subtags.proofs.word_of.are_normal.Given as goal

abbrev pub invariant-loop-word : goal.invariant-loop-word
invariant-loop-word g l =
    AllByRecursion (IsNormal g.K.WordKind.kind) (drop l.word-index l.words) →
    AllByRecursion (IsNormal g.K.WordKind.kind) l.words
