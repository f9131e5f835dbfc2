-- The fields so far are in the map.
use Rattle.std.proofs.Common.{length}
use Rattle.iloc_subtags.specs.Left.{left}
use Rattle.iloc_unicode.proofs.KeywordLemmas.{Filled}
use Rattle.iloc_unicode.proofs.reader.fill_keywords.Given as goal

abbrev pub invariant-keys : goal.invariant-keys
invariant-keys g l = Filled (left l.fn.iter) (left l.iter) l.keywords

abbrev pub decreases-keys : goal.decreases-keys
decreases-keys g l = length (left l.iter)
