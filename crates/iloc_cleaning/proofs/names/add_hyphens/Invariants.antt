use Rattle.std.proofs.Common.{◌≡◌, ◌++◌, take}
use Rattle.iloc_cleaning.specs.Cleaning.{hyphens}
use Rattle.iloc_cleaning.proofs.names.add_hyphens.Given as goal

abbrev pub invariant-loop-byte : goal.invariant-loop-byte
invariant-loop-byte l =
    l.cleaned.items ≡ l.initial.cleaned.items ++ hyphens (take l.byte-index l.text)
