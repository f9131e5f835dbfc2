use Rattle.std.proofs.Common.{◌∙◌}
use Rattle.iloc_tinystr.proofs.EightBytes.{low_widened, widened_passes}
use Rattle.iloc_tinystr.proofs.TinyAsciiStr.is_ascii_alphanumeric.Goals as goal

pub are_alphanumeric-requires : goal.are_alphanumeric-requires
are_alphanumeric-requires g c = low_widened g.row.N _ _ c.self.invariant c.widened.ensures

pub returns-then-this-le8 : goal.returns-then-this-le8
returns-then-this-le8 g c =
    c.are_alphanumeric.ensures
    ∙ widened_passes g.row.N _ _ _ c.self.invariant c.self.view_is c.widened.ensures
