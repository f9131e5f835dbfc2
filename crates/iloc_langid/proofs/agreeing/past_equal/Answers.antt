use Rattle.std.proofs.Common.{◌≡◌, ◌∷◌, map, ap, sym, refl, ◌∙◌, subst}
use Rattle.std.specs.Char.{to_ascii_lowercase}
use Rattle.iloc_spec_grammar.specs.Syntax.{lower}
use Rattle.iloc_subtags.specs.Left.{left}
use Rattle.iloc_langid.specs.Agreeing.{AreVariants, are_just}
use Rattle.iloc_langid.proofs.WalkLemmas.{first_equal, back_set}
use Rattle.iloc_langid.proofs.agreeing.past_equal.Goals as goal

pub loop-variant-preserved : goal.loop-variant-preserved
unfolding lower
loop-variant-preserved c =
    let p = c.in-Some-next.piece.now in
    let w = c.in-Some.variant.now in
    let same : lower p ≡ w = c.if-eq_ignore_ascii_case.ensures.test.0 refl
    ∙ ap (map to_ascii_lowercase) (c.as_bytes.ensures.value ∙ c.as_str.ensures.value)
    ∙ c.as_str.ensures.normal.1 in
    let ps = left c.next.new.self in
    let ws = c.in-Some.others.now in
    let set : AreVariants (w ∷ ws) =
    subst AreVariants c.in-Some.ensures.cases.0 c.loop-variant.invariant.0 in (
      back_set 1 (w ∷ ws) set,
      sym (first_equal p w ps ws set same)
          ∙ ap (λ l. are_just l (w ∷ ws)) (sym c.in-Some-next.ensures.steps)
          ∙ ap (are_just (left c.loop-variant.iter)) (sym c.in-Some.ensures.cases.0)
          ∙ c.loop-variant.invariant.1,
    )
