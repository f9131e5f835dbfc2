use Rattle.iloc_litemap.proofs.Places.{is_place}
use Rattle.iloc_litemap.proofs.search.place.Goals as goal

pub returns-then-len-le8-clause-place : goal.returns-then-len-le8-clause-place
returns-then-len-le8-clause-place g c = is_place g.met.K.Ord.total c.args.key.now c.args.probe.now.pairs.now
    c.requires.ascending _ c.place_from_front.ensures.place

pub returns-else-len-le8-clause-place : goal.returns-else-len-le8-clause-place
returns-else-len-le8-clause-place g c = is_place g.met.K.Ord.total c.args.key.now c.args.probe.now.pairs.now
    c.requires.ascending _ c.place_by_halves.ensures.place

pub returns-then-len-eq1-clause-place : goal.returns-then-len-eq1-clause-place
returns-then-len-eq1-clause-place g c = is_place g.met.K.Ord.total c.args.key.now c.args.probe.now.pairs.now
    c.requires.ascending _ c.place_beside_one.ensures.place
