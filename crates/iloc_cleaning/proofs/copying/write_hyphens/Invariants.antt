use Rattle.std.proofs.Common.{◌≡◌, take}
use Rattle.iloc_cleaning.specs.Cleaning.{hyphens}
use Rattle.iloc_cleaning.proofs.copying.write_hyphens.Given as goal

abbrev pub invariant-loop-place : goal.invariant-loop-place
invariant-loop-place l = take l.place l.room ≡ hyphens (take l.place l.text)
