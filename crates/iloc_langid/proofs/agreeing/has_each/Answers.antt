use Rattle.std.proofs.Common.{◌&&◌, drop, ap, sym, ◌∙◌, subst}
use Rattle.iloc_subtags.specs.Left.{left}
use Rattle.iloc_langid.specs.Agreeing.{AreVariants, are_all_among}
use Rattle.iloc_langid.proofs.WalkLemmas.{front_set, back_set, among_parts}
use Rattle.iloc_langid.proofs.agreeing.has_each.Goals as goal

pub has_some-requires-clause-set : goal.has_some-requires-clause-set
has_some-requires-clause-set c = subst AreVariants (sym c.split_at.ensures.front)
    (front_set _ c.loop-rest.rest.now c.loop-rest.invariant.0)

pub loop-rest-preserved : goal.loop-rest-preserved
loop-rest-preserved c =
    let ps = left c.args.iter in
    let rest = c.loop-rest.rest.now in
    let parts = c.split_at.ensures in (
      subst AreVariants (sym parts.back) (back_set _ rest c.loop-rest.invariant.0),
      c.loop-rest.invariant.1 ∙ among_parts ps rest c.min.result
          ∙ ap (λ b. b && are_all_among ps (drop c.min.result rest))
          (ap (are_all_among ps) (sym parts.front) ∙ sym c.if-not-has_some.ensures)
          ∙ ap (are_all_among ps) (sym parts.back),
    )
