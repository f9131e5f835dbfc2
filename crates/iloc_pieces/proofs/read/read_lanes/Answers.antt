use Rattle.std.proofs.Common.{arith}
use Rattle.iloc_pieces.proofs.WordLemmas.{read_is}
use Rattle.iloc_pieces.proofs.read.read_lanes.Goals as goal

pub returns : goal.returns
returns c =
    read_is (record {
      lanes = c.fits-v;
      some = c.is_language_length.ensures.some c.if-not-is_language_length.false;
      few = c.is_language_length.ensures.few c.if-not-is_language_length.false;
      language = c.is_language_length.ensures.is c.if-not-is_language_length.false;
      above = c.above_least-above.ensures;
      allowed = c.allows.ensures c.if-not-allows.false;
      long = c.in_normal.ensures.long;
      normal = c.in_normal.ensures.bytes;
    }) c.args.len _ c.of-tail.ensures (omega (arith, c.first_place-language.ensures)) c.requires
