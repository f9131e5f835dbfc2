use Rattle.std.proofs.Common.{ap}
use Rattle.iloc_keyword_types.proofs.SubdivisionOrder.{begins}
use Rattle.iloc_keyword_types.proofs.subdivision_id.SubdivisionId.beginning.Goals as goal

pub returns : goal.returns
returns c =
    begins _ _ _ _ _ _ c.raw_of_word-region.ensures.value c.raw_of_word-region.ensures.tiny
    c.raw_of_word-suffix.ensures.value c.raw_of_word-suffix.ensures.tiny
    (ap (λ s. s.region) c.self.view_is) (ap (λ s. s.suffix) c.self.view_is)
