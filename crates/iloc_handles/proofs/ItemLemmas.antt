-- What is lent of a list, and what is handed out of it.
use Rattle.std.proofs.Common.{◌≡◌, ℕ, List, refl, sym, Bor, length, slice_get}
use Rattle.std.specs.Prelude.{Option, Some, None, is_some}
use Rattle.std.specs.Option.{option_copied}
use Rattle.std.specs.Slice.{IsItemAt}
use Rattle.std.proofs.lemmas.Option.{slice_get_past, slice_get_read}

-- the item that is lent is the one at the index
pub item_at : {X : Type 0} (xs : List X) (i : ℕ) (r : Option (Bor X)) → IsItemAt xs i r →
    option_copied r ≡ slice_get xs i
item_at xs i None h = sym (slice_get_past xs i h.3)
item_at xs i (Some x) h = sym (slice_get_read xs (length xs) i x.now refl h.3.0 h.1)

-- it is there if it is lent
pub copied_there : {X : Type 0} (r : Option (Bor X)) → is_some (option_copied r) ≡ is_some r
copied_there None = refl
copied_there (Some x) = refl
