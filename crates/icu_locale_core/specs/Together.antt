-- What `==`, the order and the hash of a type have to do with one another: the rules of Rust's
-- `Eq`, `Ord` and `Hash`.
use Rattle.std.specs.Prelude.{◌≡◌, ◌↔◌, Bool, IsTrue}
use Rattle.std.specs.Hash.{HashWrites}
use Rattle.std.specs.declared.cmp.Ordering.{Ordering}
use Rattle.std.specs.declared.cmp.Ordering.TheVariants.{Equal}

-- the order is `Equal` exactly if two values are `==`, and those feed a hasher alike
pub record CompareTogether {X : Type 0} (eq : X → X → Bool) (cmp : X → X → Ordering)
    (fed : X → HashWrites) : Type 0 where
  pub equal : (x y : X) → (cmp x y ≡ Equal) ↔ IsTrue (eq x y)
  pub alike : (x y : X) → IsTrue (eq x y) → fed x ≡ fed y
