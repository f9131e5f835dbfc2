use Rattle.std.proofs.Common.{take}
use Rattle.iloc_writeable.proofs.ShortLemmas.{after_one, from_start, ascii_text, hyphen_text}
use Rattle.iloc_writeable.proofs.short.hyphened_text.Goals as goal

pub from_utf8_unchecked-requires : goal.from_utf8_unchecked-requires
from_utf8_unchecked-requires c =
    rw (after_one c.args.padded.now c.args.all.now c.args.len c.requires.all)
    (ascii_text (take c.args.len c.args.padded.now) c.requires.ascii)

pub from_utf8_unchecked-requires-2 : goal.from_utf8_unchecked-requires-2
from_utf8_unchecked-requires-2 c =
    rw (from_start c.args.padded.now c.args.all.now c.args.len c.requires.all)
    (hyphen_text (take c.args.len c.args.padded.now) c.requires.ascii)
