use Rattle.std.proofs.Common.{◌≡◌, ◌++◌, take}
use Rattle.iloc_program.specs.ReplyBlock.{held}
use Rattle.iloc_program.specs.Listing.{shown}
use Rattle.iloc_program.proofs.quoting.write_shown.Given as goal

-- the first bytes are there, as they are shown
abbrev pub invariant-loop-byte : goal.invariant-loop-byte
invariant-loop-byte g l = held l.replies ≡ held l.initial.replies ++ shown (take l.byte-index l.rest)
