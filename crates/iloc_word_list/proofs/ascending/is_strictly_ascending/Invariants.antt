use Rattle.std.proofs.Common.{◌≡◌, ◌∷◌, drop}
use Rattle.iloc_word_list.specs.Ascending.{ascends}
use Rattle.iloc_word_list.proofs.ascending.is_strictly_ascending.Given as goal

-- the items ascend where those from the last one on do
abbrev pub invariant-loop-item : goal.invariant-loop-item
invariant-loop-item g l =
    ascends g.T.Ord.cmp l.items ≡ ascends g.T.Ord.cmp (l.last ∷ drop l.item-index l.others)
