use Rattle.std.proofs.Common.{of_calls, subst}
use Rattle.iloc_litemap.specs.Calls.{CalledAtKeyValue}
use Rattle.iloc_litemap.proofs.Filtered.{filtered_same}
use Rattle.iloc_litemap.proofs.vec_store.VecTuple2Store.lm_retain.Goals as goal
use denote.Param.Always.{always_mut, mut_by}

pub retain-requires : goal.retain-requires
retain-requires g c = mut_by _ (λ s. always_mut g.F.FnMut s.0) (λ s a i. search of_calls)
    (λ s a r t i e. search of_calls) _ c.requires

pub returns : goal.returns
returns g c = filtered_same _ (CalledAtKeyValue g.F.FnMut) (λ s. s.0)
    (λ p x b q call. subst (λ e. CalledAtKeyValue g.F.FnMut p.0 e b q.0) call.shows call.called.met.0) _ _ _
    c.retain.ensures.filtered
