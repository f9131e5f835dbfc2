use Rattle.iloc_langid.specs.Reads as langid
use Rattle.iloc_extensions.specs.ExtensionsValue as extensions
use Rattle.iloc_locale.proofs.AloneLemmas.{means_alone}
use Rattle.iloc_locale.proofs.locale.Locale.normalizing_eq_in.Goals as goal

pub returns-then-is_empty-clause-same : goal.returns-then-is_empty-clause-same
returns-then-is_empty-clause-same g c =
    let locale = c.args.self.now in
    let none = c.is_empty.ensures.0 c.if-is_empty.true in
    let alone = means_alone c.args.other.now (langid.value_of locale.id)
    (extensions.value_of locale.extensions) none in
    let same = c.normalizing_eq.ensures in
    (λ s. alone.0 (same.0 s), λ m. same.1 (alone.1 m))
