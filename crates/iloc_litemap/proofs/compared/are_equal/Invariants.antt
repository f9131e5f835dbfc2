use Rattle.std.proofs.Common.{◌≡◌, ◌&&◌, length, drop}
use Rattle.std.specs.Cmp.Lexicographic.{pointwise}
use Rattle.iloc_litemap.proofs.compared.are_equal.Given as goal

-- the pairs before are equal
abbrev pub invariant-loop-i : goal.invariant-loop-i
invariant-loop-i g l = record {
  end : l.i-end ≡ length l.fn.pairs;
  long : length l.fn.pairs ≡ length l.fn.others;
  rest : pointwise (λ x y. g.K.PartialEq.eq x.0 y.0 && g.V.PartialEq.eq x.1 y.1) (drop l.i l.fn.pairs)
      (drop l.i l.fn.others)
      ≡ pointwise (λ x y. g.K.PartialEq.eq x.0 y.0 && g.V.PartialEq.eq x.1 y.1) l.fn.pairs l.fn.others;
}
