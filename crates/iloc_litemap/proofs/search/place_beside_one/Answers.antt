use Rattle.std.proofs.Common.{◌∙◌, refl, sym, arith}
use Rattle.iloc_litemap.proofs.Places.{place_within, told, there, before, behind, ok_of_rank, err_of_rank}
use Rattle.iloc_litemap.proofs.search.place_beside_one.Goals as goal

pub returns-then-is_eq-clause-place : goal.returns-then-is_eq-clause-place
returns-then-is_eq-clause-place g c =
    let t = told g.met.K.Ord.total c.args.key.now _ _ 0 _ c.requires.ascending refl
    (omega (arith, c.requires.one)) c.compare-order.ensures.order in
    sym (ok_of_rank _ 0 (sym (there _ _ 0 t (sym c.is_eq.ensures ∙ c.if-is_eq.true))))

pub returns-then-is_ge-clause-place : goal.returns-then-is_ge-clause-place
returns-then-is_ge-clause-place g c =
    let t = told g.met.K.Ord.total c.args.key.now _ _ 0 _ c.requires.ascending refl
    (omega (arith, c.requires.one)) c.compare-order.ensures.order in
    let gap =
    before _ _ 0 t (sym c.is_ge.ensures ∙ c.if-is_ge.true) (sym c.is_eq.ensures ∙ c.if-is_eq.false) in
    sym (err_of_rank _ 0 (omega (arith, gap)))

pub returns-else-is_ge-clause-place : goal.returns-else-is_ge-clause-place
returns-else-is_ge-clause-place g c =
    let t = told g.met.K.Ord.total c.args.key.now _ _ 0 _ c.requires.ascending refl
    (omega (arith, c.requires.one)) c.compare-order.ensures.order in
    let more = behind _ _ 0 t (sym c.is_ge.ensures ∙ c.if-is_ge.false) in
    sym (err_of_rank _ 1 (omega (
      arith,
      more,
      place_within g.met.K.Ord.total c.args.key.now c.args.probe.now.pairs.now,
      c.requires.one,
    )))
