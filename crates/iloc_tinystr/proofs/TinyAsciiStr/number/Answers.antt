use Rattle.std.proofs.Common.{◌∙◌}
use Rattle.iloc_tinystr.proofs.TinyTextLemmas.{number_of_raw_form, low_number, tiny_of}
use Rattle.iloc_tinystr.proofs.TinyAsciiStr.number.Goals as goal

pub returns-clause-value : goal.returns-clause-value
returns-clause-value g c = c.number_of_raw.ensures
    ∙ number_of_raw_form g.row.N _ _ c.self.invariant c.self.view_is

pub returns-clause-low : goal.returns-clause-low
returns-clause-low g c =
    low_number g.row.N _ _ c.requires (tiny_of g.row.N _ _ c.self.invariant c.self.view_is)
    (returns-clause-value g c)
