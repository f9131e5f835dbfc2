use Rattle.std.proofs.Common.{of_calls, refl, subst}
use Rattle.iloc_litemap.proofs.Filtered.{filtered_same}
use Rattle.iloc_extensions.specs.declared.extension_type.ExtensionType.TheVariants.{Other}
use Rattle.iloc_extensions.proofs.extensions.Extensions.retain_by_type.Goals as goal
use denote.Param.Always.{always_mut, mut_by, mut_next}

pub retain-requires : goal.retain-requires
retain-requires g c =
    let first = mut_next g.F.FnMut _ _ _ _ _ c.predicate-keeps_unicode.ensures refl c.requires in
    let second = mut_next g.F.FnMut _ _ _ _ _ c.predicate-keeps_transform.ensures refl first in
    let third = mut_next g.F.FnMut _ _ _ _ _ c.predicate-keeps_private.ensures refl second in
    mut_by _ (λ s. always_mut g.F.FnMut s.0) (λ s a i. search of_calls) (λ s a r t i e. search of_calls) _
    third

pub returns : goal.returns
returns g c = record {
  after_unicode = c.predicate-keeps_unicode.new.self;
  after_transform = c.predicate-keeps_transform.new.self;
  after_private = c.predicate-keeps_private.new.self;
  keeps_unicode = c.predicate-keeps_unicode.result;
  keeps_transform = c.predicate-keeps_transform.result;
  keeps_private = c.predicate-keeps_private.result;
  asks_unicode = c.predicate-keeps_unicode.ensures;
  asks_transform = c.predicate-keeps_transform.ensures;
  asks_private = c.predicate-keeps_private.ensures;
  unicode = c.keep_unicode.ensures;
  transform = c.keep_transform.ensures;
  private = c.keep_private.ensures;
  others = filtered_same _ (λ p o b h. goal.F-step g p (Other o.0) b h) (λ s. s.0)
      (λ p x b q call. subst (λ o. goal.F-step g p.0 (Other o.0) b q.0) call.shows call.called.met.0) _ _
      _ c.retain.ensures.filtered;
}
