use Rattle.std.proofs.Common.{◌≡◌, ◌+◌, ◌<◌, ◌^◌, length, drop}
use Rattle.iloc_spec_grammar.specs.Syntax.{dashes}
use Rattle.iloc_unicode.proofs.printing.sum_with.Given as goal

-- what is counted, and the words that are left, are all
abbrev pub invariant-loop-word : goal.invariant-loop-word
invariant-loop-word l = record {
  all : l.sum + length (dashes (drop l.word-index l.words)) ≡ l.before + l.more + length (dashes l.words);
  fits : l.sum < 2 ^ 64;
}
