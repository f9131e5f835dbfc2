use Rattle.std.proofs.Common.{◌≡◌, ◌+◌, ◌≤◌, ◌++◌, length, drop}
use Rattle.iloc_spec_grammar.specs.Meaning.{set_of}
use Rattle.iloc_spec_grammar.specs.Syntax.{word_cmp}
use Rattle.iloc_spec_grammar.specs.Values.{StrictlyAscends}
use Rattle.iloc_word_list.proofs.word_set.WordSet.add_all.Given as goal

abbrev pub invariant-loop-word : goal.invariant-loop-word
invariant-loop-word g l = record {
  set : set_of (l.self ++ drop l.word-index l.word-items) ≡ set_of (l.fn.self ++ l.fn.other);
  ascending : StrictlyAscends word_cmp l.self;
  short : length l.self ≤ length l.fn.self + l.word-index;
}
