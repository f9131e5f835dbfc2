use Rattle.std.proofs.Common.{rules}
use Rattle.iloc_tinystr.proofs.EightBytes.{alphanumerics, sign_free}
use Rattle.iloc_tinystr.proofs.lanes.are_alphanumeric.Goals as goal

pub overflow_cast-signed : goal.overflow_cast-signed
overflow_cast-signed c = sign_free c.args.all c.requires

pub returns : goal.returns
returns c = alphanumerics c.args.all (search rules) c.requires _ c.from_le_bytes.ensures
