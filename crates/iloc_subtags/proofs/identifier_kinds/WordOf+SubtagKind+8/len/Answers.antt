use Rattle.iloc_subtags.specs.KindLaws.{length-subtag}
use Rattle.iloc_subtags.proofs.identifier_kinds.WordOf+SubtagKind+8.len.Goals as goal

pub returns-clause-least : goal.returns-clause-least
returns-clause-least c = rw (c.len.ensures.value, c.to_tinystr.ensures.value)
    (length-subtag c.args.self.now c.to_tinystr.ensures.normal).0

pub returns-clause-most : goal.returns-clause-most
returns-clause-most c = rw (c.len.ensures.value, c.to_tinystr.ensures.value)
    (length-subtag c.args.self.now c.to_tinystr.ensures.normal).1
