use Rattle.std.proofs.Common.{◌≡◌, take}
use Rattle.iloc_program.specs.Listing.{shown}
use Rattle.iloc_program.proofs.quoting.count_plain.Given as goal

-- the first bytes are shown as themselves
abbrev pub invariant-loop-at : goal.invariant-loop-at
invariant-loop-at l = shown (take l.at l.text) ≡ take l.at l.text
