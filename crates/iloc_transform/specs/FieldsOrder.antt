-- The order of fields: pair by pair, by key and then by value.
use Rattle.std.specs.Prelude.{◌≡◌, ℕ, ◌&&◌, List, nat_eq, refl}
use Rattle.std.specs.Ordering.{nat_cmp, eq_by_cmp, is_eq, ordering_then}
use Rattle.std.specs.Cmp.{IsTotalOrder}
use Rattle.std.specs.Cmp.Lexicographic.{lists_ties}
use Rattle.std.specs.declared.cmp.Ordering.{Ordering}
use Rattle.std.specs.declared.cmp.Ordering.TheVariants.{Less, Equal, Greater}
use Rattle.std.proofs.Common.{ap₂, ◌∙◌, sym, arith}
use Rattle.std.proofs.lemmas.Bool.Decides.{nat_tests}
use Rattle.iloc_spec_grammar.specs.Syntax.{Text, word_cmp, Fields}
use lib.Pointwise.{pointwise}
use Rattle.iloc_spec_parts.specs.Orders.{words_cmp, pair_cmp, fields_cmp}
use Rattle.iloc_spec_parts.proofs.OrderLaws.{fields_exact}
use Rattle.iloc_shortvec.specs.ShortOrder.{short_ties}

then_is_eq : (o q : Ordering) → is_eq (ordering_then o q) ≡ (is_eq o && is_eq q)
then_is_eq Less q = refl
then_is_eq Equal q = refl
then_is_eq Greater q = refl

nat_ties : (a b : ℕ) → nat_eq a b ≡ eq_by_cmp nat_cmp a b
nat_ties a b = grind (arith, nat_tests)

word_ties : (v w : Text) → pointwise nat_eq v w ≡ eq_by_cmp word_cmp v w
word_ties v w = lists_ties nat_cmp nat_ties v w

-- fields tie exactly if they are equal pair by pair
pub fields_ties : (es fs : Fields)
    → pointwise (λ (x y : Text × List Text). pointwise nat_eq x.0 y.0
    && pointwise (pointwise nat_eq) x.1 y.1) es fs ≡ eq_by_cmp fields_cmp es fs
fields_ties es fs = lists_ties (pair_cmp word_cmp words_cmp)
    (λ x y. ap₂ (λ a b. a && b) (word_ties x.0 y.0) (short_ties word_cmp word_ties x.1 y.1)
    ∙ sym (then_is_eq (word_cmp x.0 y.0) (words_cmp x.1 y.1))) es fs

pub fields_total : IsTotalOrder fields_cmp
fields_total = fields_exact.total
