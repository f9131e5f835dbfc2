use Rattle.std.proofs.Common.{ap, eqb, get_or, ◌∙◌}
use Rattle.iloc_subtags.specs.KindLaws.{letters_by_length}
use Rattle.iloc_subtags.proofs.KindLemmas.{third_byte}
use Rattle.iloc_subtags.proofs.identifier_kinds.WordOf+RegionKind+3.is_alphabetic.Goals as goal

pub returns-clause-two : goal.returns-clause-two
returns-clause-two c = ap (λ raw. eqb (get_or raw 2 0) 0) c.into_raw.ensures
    ∙ third_byte c.args.self.now c.is_normal.ensures

pub returns-clause-letters : goal.returns-clause-letters
returns-clause-letters c = returns-clause-two c ∙ letters_by_length c.args.self.now c.is_normal.ensures
