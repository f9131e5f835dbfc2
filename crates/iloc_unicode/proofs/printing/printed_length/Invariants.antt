use Rattle.std.proofs.Common.{◌≡◌, ◌+◌, ◌≤◌, ◌<◌, ◌^◌, length, drop}
use Rattle.iloc_spec_grammar.specs.Syntax.{join, fields_pieces}
use Rattle.iloc_unicode.proofs.LengthLemmas.{rest_length}
use Rattle.iloc_unicode.proofs.printing.printed_length.Given as goal

-- what is counted, and the pairs that are left, are all
abbrev pub invariant-loop-pair : goal.invariant-loop-pair
invariant-loop-pair l = record {
  all : l.sum + rest_length l.hyphen (drop l.pair-index l.pairs) ≡ length (join (fields_pieces l.pairs));
  few : l.hyphen ≤ 1;
  fits : l.sum < 2 ^ 64;
}
