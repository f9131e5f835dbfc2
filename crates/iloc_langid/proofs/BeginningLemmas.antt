-- The language, the script and the region that pieces begin with.
use Rattle.std.proofs.Common.{List, arith}
use Rattle.iloc_spec_grammar.specs.Syntax.{Text, Identifier, languages, head}
use Rattle.iloc_spec_grammar.specs.Meaning.{IdentifierMeans}
use Rattle.iloc_spec_grammar.proofs.ReadingLaws.{front_of-pieces}
use Rattle.iloc_langid.specs.PlainReads.{IsFrontOf}
use Rattle.iloc_langid.proofs.HeadLemmas.{script_at_front, region_at_front}
use Rattle.iloc_langid.proofs.SmallLemmas.{parts_are}

-- pieces that mean an identifier begin with its language, script and region
means_begins : (ps : List Text) (i : Identifier) → IdentifierMeans languages ps i → IsFrontOf ps i
means_begins ps i m = grind (arith, front_of-pieces, parts_are)

-- the head of pieces begins as they do
head_begins : (ps : List Text) (i : Identifier) → IsFrontOf (head ps) i → IsFrontOf ps i
head_begins ps i h = grind (arith, script_at_front, region_at_front)

pub head_means_begins : (ps : List Text) (i : Identifier)
    → IdentifierMeans languages (head ps) i → IsFrontOf ps i
head_means_begins ps i m = head_begins ps i (means_begins (head ps) i m)
