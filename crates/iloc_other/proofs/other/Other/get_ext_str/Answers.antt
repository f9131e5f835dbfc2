use Rattle.std.proofs.Common.{subst, sym}
use Rattle.std.specs.Str.{IsUtf8}
use Rattle.iloc_other.proofs.OtherLemmas.{letter_is_utf8}
use Rattle.iloc_other.proofs.other.Other.get_ext_str.Goals as goal

pub from_utf8_unchecked-requires : goal.from_utf8_unchecked-requires
from_utf8_unchecked-requires c =
    subst IsUtf8 (sym c.from_ref.ensures.value) (letter_is_utf8 c.self.inside.ext c.self.invariant)
