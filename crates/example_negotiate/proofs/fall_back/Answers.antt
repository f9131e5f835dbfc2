use Rattle.example_negotiate.specs.Fallback.{itself, parent}
use Rattle.example_negotiate.proofs.fall_back.Goals as goal

pub parents-init : goal.parents-init
parents-init c = itself

pub parents-preserved : goal.parents-preserved
parents-preserved c = parent c.parents.invariant c.if-not-truncate_to_parent.ensures.parent
