use Rattle.std.proofs.Common.{refl, rules}
use Rattle.std.specs.Char.{to_ascii_lowercase}
use borrow.Rule.Simd.Lanes.{act2}
use mir.Syntax.{bit_or}
use Rattle.iloc_tinystr.proofs.EightBytes.{byte, changed, sign_free}
use Rattle.iloc_tinystr.proofs.lanes.in_lower_case.Goals as goal

pub overflow_cast-capitals : goal.overflow_cast-capitals
overflow_cast-capitals c = sign_free c.args.all c.requires

pub returns : goal.returns
returns c =
    changed (act2 bit_or byte byte byte) 37 101 32 to_ascii_lowercase c.args.all (search rules) c.requires
    refl
