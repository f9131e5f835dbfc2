use Rattle.std.proofs.Common.{refl, rules}
use Rattle.std.specs.Char.{to_ascii_uppercase}
use borrow.Rule.Simd.Lanes.{act2}
use mir.Syntax.{bit_xor}
use Rattle.iloc_tinystr.proofs.EightBytes.{byte, changed, sign_free}
use Rattle.iloc_tinystr.proofs.lanes.in_upper_case.Goals as goal

pub overflow_cast-small : goal.overflow_cast-small
overflow_cast-small c = sign_free c.args.all c.requires

pub returns : goal.returns
returns c =
    changed (act2 bit_xor byte byte byte) 5 101 32 to_ascii_uppercase c.args.all (search rules) c.requires
    refl
