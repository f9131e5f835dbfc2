-- What becomes of a loan that is read.
use Rattle.std.specs.Prelude.{◌≡◌, ⊤}
use Rattle.std.specs.Borrow.{MutBor, Fml}
use mathlib.Core.Option.{none}
use denote.Follow.{follows_so}
use Rattle.iloc_handles.specs.declared.lent.Lent.{Lent}
use Rattle.iloc_handles.specs.contracts.lent.Lent.{the_row}

-- it ends as it was
abbrev pub stays : MutBor Lent → Fml
stays s = follows_so the_row the_row s.ghost_name none (λ _ _. ⊤) (λ v. v ≡ s.now)
