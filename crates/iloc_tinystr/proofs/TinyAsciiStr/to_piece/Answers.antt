use Rattle.std.proofs.Common.{ap, ◌∙◌}
use Rattle.std.specs.Int.RustNames.{count_ones}
use Rattle.iloc_tinystr.specs.TinyText.{is_tiny_text}
use Rattle.iloc_tinystr.proofs.Marks.{count_packed, count_shows}
use Rattle.iloc_tinystr.proofs.TinyAsciiStr.to_piece.Goals as goal

pub of_lowest-requires : goal.of_lowest-requires
of_lowest-requires g c =
    count_packed g.row.N _ _ c.requires c.number-packed.ensures.tiny c.number-packed.ensures.value _
    (ap count_ones c.text_marks.ensures)

pub returns-clause-value : goal.returns-clause-value
returns-clause-value g c =
    c.of_lowest.ensures ∙ count_shows g.row.N _ _ c.requires c.number-packed.ensures.tiny
    c.number-packed.ensures.value _ (ap count_ones c.text_marks.ensures)

pub returns-clause-tiny : goal.returns-clause-tiny
returns-clause-tiny g c = ap (is_tiny_text g.row.N) (returns-clause-value g c) ∙ c.number-packed.ensures.tiny
