use Rattle.std.proofs.Common.{◌≡◌, take}
use Rattle.locid.specs.Prepared.{with_newlines}
use Rattle.locid.proofs.preparing.add_with_newlines.Given as goal

-- the first bytes are there, with their newlines
abbrev pub invariant-loop-byte : goal.invariant-loop-byte
invariant-loop-byte l = l.room.items ≡ with_newlines (take l.byte-index l.line)
