use Rattle.std.proofs.Common.{rules, ap, ◌∙◌}
use Rattle.std.specs.Ordering.{ordering_then}
use Rattle.std.specs.Cmp.Lexicographic.{slice_cmp}
use Rattle.iloc_spec_parts.specs.Orders.{unicode_cmp, transform_cmp, words_cmp, other_cmp}
use Rattle.iloc_extensions.specs.ExtensionsValue.{value_of}
use Rattle.iloc_extensions.proofs.OrderLemmas.{chained, regrouped}
use Rattle.iloc_extensions.proofs.extensions.Extensions.total_cmp.Goals as goal

pub returns : goal.returns
returns c =
    let left = value_of c.args.self.now in
    let right = value_of c.args.other.now in
    let u = unicode_cmp left.unicode right.unicode in
    let t = transform_cmp left.transform right.transform in
    let p = words_cmp left.private right.private in
    let o = slice_cmp other_cmp left.others right.others in
    let transforms =
    chained c.total_cmp.result c.then_with.result t _ c.then_with.ensures (λ h. search rules) in
    let privates =
    chained c.then_with.result c.then_with-2.result p _ c.then_with-2.ensures (λ h. search rules) in
    let others =
    chained c.then_with-2.result c.then_with-3.result o _ c.then_with-3.ensures (λ h. search rules) in
    others
    ∙ ap (λ r. ordering_then r o)
    (privates ∙ ap (λ r. ordering_then r p) (transforms ∙ ap (λ r. ordering_then r t) c.total_cmp.ensures))
    ∙ regrouped (ordering_then u t) p o ∙ regrouped u t (ordering_then p o)
