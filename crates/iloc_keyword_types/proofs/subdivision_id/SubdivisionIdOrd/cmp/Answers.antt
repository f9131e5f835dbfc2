use Rattle.std.proofs.Common.{sym, ◌∙◌}
use Rattle.std.specs.Cmp.Lexicographic.{slice_cmp}
use Rattle.std.specs.Ordering.{nat_cmp}
use Rattle.iloc_keyword_types.proofs.SubdivisionOrder.{by_beginning, by_suffix}
use Rattle.iloc_keyword_types.proofs.subdivision_id.SubdivisionIdOrd.cmp.Goals as goal

pub returns-in-Equal : goal.returns-in-Equal
returns-in-Equal c =
    c.cmp.ensures ∙ (λ i. slice_cmp nat_cmp (c.self.view_is i).suffix (c.other.view_is i).suffix)
    ∙ by_suffix _ _ _ _ _ _ c.beginning.ensures c.beginning-2.ensures (sym c.in-Equal.is ∙ c.cmp_raw.ensures)

pub returns-in_default : goal.returns-in_default
returns-in_default c =
    by_beginning _ _ _ _ _ _ c.beginning.ensures c.beginning-2.ensures c.cmp_raw.result c.cmp_raw.ensures
    c.in_default.not-Equal
