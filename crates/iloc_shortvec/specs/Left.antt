-- What an iterator over the items of a `ShortWords` has left.
use Rattle.std.specs.Prelude.{List, [], take}
use Rattle.std.specs.Vec.Iter.{into_iter_items}
use Rattle.iloc_shortvec.specs.declared.kept.Left.{Left}
use Rattle.iloc_shortvec.specs.declared.kept.Left.TheVariants.{Done, Inline, Heap}

-- The items that are left.
abbrev pub words_left : {T : Type 0} → Left T → List T
words_left Done = []
words_left (Inline count cells) = take count cells
words_left (Heap items) = into_iter_items items
