use Rattle.std.proofs.Common.{subst}
use Rattle.iloc_litemap.specs.Pairs.{IsPlace}
use Rattle.iloc_litemap.proofs.Places.{only_place, place_in_range}
use Rattle.iloc_litemap.proofs.search.place_in.Goals as goal

pub returns-clause-place : goal.returns-clause-place
returns-clause-place g c = only_place g.met.K.Ord.total c.args.key.now c.args.pairs.now c.requires _
    (subst (λ pairs. IsPlace g.K.Ord.cmp pairs c.args.key.now c.place.result) c.new.ensures.pairs
    c.place.ensures.place)

pub returns-clause-bound : goal.returns-clause-bound
returns-clause-bound g c = place_in_range g.met.K.Ord.total c.args.key.now c.args.pairs.now _
    (returns-clause-place g c)
