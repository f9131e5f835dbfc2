-- The list that a `ShortWords` holds, by how it is kept.
use Rattle.std.specs.Prelude.{◌≤◌, ℕ, List, [], length, take}
use Rattle.std.specs.Vec.{with_items}
use Rattle.iloc_shortvec.specs.ShortList.{overwritten}
use Rattle.iloc_shortvec.specs.declared.kept.Kept.{Kept}
use Rattle.iloc_shortvec.specs.declared.kept.Kept.TheVariants.{Empty, Inline, Heap}

-- the items
abbrev pub items_of : {T : Type 0} → Kept T → List T
items_of (Empty none) = []
items_of (Inline count cells) = take count cells
items_of (Heap items) = items.items

-- how many cells in place are used
abbrev pub count_of : {T : Type 0} → Kept T → ℕ
count_of (Empty none) = 0
count_of (Inline count cells) = count
count_of (Heap items) = 0

-- a list in place has at least one item; it has at most four, since a `Count` is at most four
abbrev pub HasItems : {T : Type 0} → Kept T → Type 0
HasItems (Empty none) = Unit {0}
HasItems (Inline count cells) = 1 ≤ count
HasItems (Heap items) = Unit {0}

-- the same, and a list on the heap has at least five
abbrev pub IsKept : {T : Type 0} → Kept T → Type 0
IsKept (Empty none) = Unit {0}
IsKept (Inline count cells) = 1 ≤ count
IsKept (Heap items) = 5 ≤ length items.items

-- the same place, after a write of its items as a slice
abbrev pub with_list : {T : Type 0} → Kept T → List T → Kept T
with_list (Empty none) ws = Empty none
with_list (Inline count cells) ws = Inline count (overwritten cells ws)
with_list (Heap items) ws = Heap (with_items items ws)
