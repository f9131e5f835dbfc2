use Rattle.std.proofs.Common.{of_calls, subst, sym}
use Rattle.std.specs.Fn.{CalledAt}
use Rattle.std.specs.List.{AllByRecursion}
use Rattle.std.specs.List.Retain.{IsFiltered}
use Rattle.iloc_transform.specs.FieldsReading.{IsFieldPair}
use Rattle.iloc_litemap.proofs.Filtered.{filtered_same}
use Rattle.iloc_transform.proofs.MapLemmas.{kept_pairs}
use Rattle.iloc_transform.proofs.fields.Fields.retain_by_key.Goals as goal
use denote.Param.Always.{always_mut, mut_by}

pub retain-requires : goal.retain-requires
retain-requires g c = mut_by _ (λ s. always_mut g.F.FnMut s.0) (λ s a i. search of_calls)
    (λ s a r t i e. search of_calls) _ c.requires

pub invariant_of-self : goal.invariant_of-self
invariant_of-self g c = subst (AllByRecursion IsFieldPair) (sym c.retain.ensures.4)
    (kept_pairs IsFieldPair c.retain.ensures.0 _ c.self.invariant)

pub returns : goal.returns
returns g c =
    subst (λ es. IsFiltered (λ f e b h. CalledAt g.F.FnMut f e.0 b h) c.args.predicate es c.retain.new.self)
    c.self.view_is (filtered_same _ (λ f e b h. CalledAt g.F.FnMut f e.0 b h) (λ s. s.0)
    (λ p x b q call. subst (λ k. CalledAt g.F.FnMut p.0 k b q.0) call.shows.0 call.called.met.0) _ _ _
    c.retain.ensures)
