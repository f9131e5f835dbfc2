use Rattle.std.proofs.Common.{refl}
use Rattle.iloc_langid.proofs.ParentLemmas.{language_left, one_fewer}
use Rattle.iloc_langid.proofs.identifier.LanguageIdentifier.truncate_to_parent.Goals as goal

pub returns-clause-parent : goal.returns-clause-parent
returns-clause-parent c =
    language_left _ _ _ _ _ _ (c.if-pop_variant.ensures).popped ((c.if-pop_variant.ensures).same refl)
    (c.if-is_some.ensures) (c.if-is_some-2.ensures) (c.if-is_unknown.ensures).1 c.unknown-self.ensures

pub returns-clause-fewer : goal.returns-clause-fewer
returns-clause-fewer c h = one_fewer _ _ (returns-clause-parent c)
