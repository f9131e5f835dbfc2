use Rattle.std.proofs.Common.{w8, eqb, arith}
use Rattle.std.proofs.lemmas.Simd.{bitmask_splat}
use Rattle.iloc_program.proofs.lines.wide_line_ends.Goals as goal

pub returns : goal.returns
returns c = bitmask_splat w8 eqb c.args.lanes 32 10 c.fits-lanes.0 (omega arith)
