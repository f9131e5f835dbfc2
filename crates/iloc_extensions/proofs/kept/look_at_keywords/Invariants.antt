-- The pairs that were looked at are normal.
use Rattle.std.proofs.Common.{take}
use Rattle.std.specs.List.{AllByRecursion}
use Rattle.iloc_unicode.specs.UnicodeValue.{IsKeywordValue}
use Rattle.iloc_extensions.proofs.kept.look_at_keywords.Given as goal

abbrev pub invariant-loop-pair : goal.invariant-loop-pair
invariant-loop-pair l = AllByRecursion IsKeywordValue (take l.pair-index l.pairs)
