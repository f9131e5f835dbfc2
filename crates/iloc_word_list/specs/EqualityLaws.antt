-- The equality test of lists, item by item, finds exactly equal lists equal.
use Rattle.std.proofs.Common.{◌≡◌, Bool, true, ap, nat_eq}
use lib.Pointwise.{pointwise, pointwise_decides, bytes_decides}
use Rattle.iloc_word_list.specs.Equality.{IsExactTest, words_eq}

pub lists_exact : {X : Type 0} (test : X → X → Bool) → IsExactTest test
    → IsExactTest (pointwise test)
lists_exact test exact = pointwise_decides exact

pub word_exact : IsExactTest (pointwise nat_eq)
word_exact = bytes_decides

pub words_exact : IsExactTest words_eq
words_exact = lists_exact (pointwise nat_eq) word_exact

-- what an exact test finds equal is alike under each function, as under the writes of a hash
pub alike : {X Y : Type 0} (F : X → Y) {test : X → X → Bool} → IsExactTest test → (x y : X)
    → test x y ≡ true → F x ≡ F y
alike F exact x y h = ap F ((exact x y).0 h)
