use Rattle.std.proofs.Common.{◌∙◌, subst}
use Rattle.std.specs.List.{AllZip}
use Rattle.iloc_litemap.proofs.Clones.{ClonedValue, same_keys, still_ascend, equal_of_cloned}
use Rattle.iloc_litemap.proofs.map.LiteMap.clone.Goals as goal

pub invariant_of-result : goal.invariant_of-result
invariant_of-result g c =
    let pairs = g.S.Store.pairs c.self.inside.store in
    let clones = g.S.Store.pairs c.in_ok-lm_clone.field-0 in
    let cloned = same_keys g.V.Clone.is_clone g.K.Clone.is_clone c.requires.same_keys pairs clones
    c.in_ok-lm_clone.ensures in
    still_ascend g.V.Clone.is_clone g.K.Ord.cmp pairs clones cloned c.self.invariant

pub returns-clause-clones : goal.returns-clause-clones
returns-clause-clones g c =
    let pairs = g.S.Store.pairs c.self.inside.store in
    let clones = g.S.Store.pairs c.in_ok-lm_clone.field-0 in
    let cloned = same_keys g.V.Clone.is_clone g.K.Clone.is_clone c.requires.same_keys pairs clones
    c.in_ok-lm_clone.ensures in
    subst (λ xs. AllZip (ClonedValue g.V.Clone.is_clone) xs clones) c.self.view_is cloned

pub returns-clause-equal : goal.returns-clause-equal
returns-clause-equal g c = λ same.
    let pairs = g.S.Store.pairs c.self.inside.store in
    let clones = g.S.Store.pairs c.in_ok-lm_clone.field-0 in
    let cloned = same_keys g.V.Clone.is_clone g.K.Clone.is_clone c.requires.same_keys pairs clones
    c.in_ok-lm_clone.ensures in
    equal_of_cloned g.V.Clone.is_clone same pairs clones cloned ∙ c.self.view_is
