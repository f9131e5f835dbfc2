-- Where the variant is not there, all stay.
use Rattle.std.proofs.Common.{ap}
use Rattle.iloc_spec_grammar.specs.Syntax.{Variant}
use Rattle.iloc_locale.specs.LocaleReading.{value_of}
use Rattle.iloc_handles.proofs.SubtagLemmas.{absent_stays}
use Rattle.iloc_handles.proofs.variants.RemoveVariantChange.apply.Goals as goal

pub returns-in_default : goal.returns-in_default
returns-in_default c =
    let l = c.args.locale.now in
    let kept = absent_stays Variant c.args.self.now.0.now c.in-Ok.variant l.id.variants c.remove.new.self
    c.in-Ok.ensures.1 c.if-remove.ensures.removed c.if-remove.ensures.left in
    (kept.0, ap (λ vs. value_of (record l { id = record l.id { variants = vs } })) kept.1)
