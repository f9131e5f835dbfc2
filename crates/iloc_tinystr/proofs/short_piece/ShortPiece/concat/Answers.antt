use Rattle.iloc_tinystr.proofs.Joined.{joined_word}
use Rattle.iloc_tinystr.proofs.short_piece.ShortPiece.concat.Goals as goal

pub invariant_of-result-2 : goal.invariant_of-result-2
invariant_of-result-2 c = joined_word _ _ _ _ c.args.self c.args.other c.self.invariant c.other.invariant
    c.self.view_is c.other.view_is c.requires
