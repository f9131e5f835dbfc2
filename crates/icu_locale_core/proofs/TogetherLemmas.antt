-- A type that compares, and feeds a hasher, by what its values stand for.
use Rattle.std.proofs.Common.{◌≡◌, ◌↔◌, ◌∙◌, Bool, IsTrue, ap, sym}
use Rattle.std.specs.Hash.{HashWrites}
use Rattle.std.specs.Ordering.{on}
use Rattle.std.specs.declared.cmp.Ordering.{Ordering}
use Rattle.iloc_spec_parts.specs.Orders.{IsExactOrder}
use Rattle.icu_locale_core.specs.Together.{CompareTogether}

module _ {X V : Type 0} (value : X → V) (cmp : V → V → Ordering) (order : IsExactOrder cmp) where
  pub by_value : (eq : X → X → Bool) (fed_value : V → HashWrites) (fed : X → HashWrites)
      → ((x y : X) → IsTrue (eq x y) ↔ (value x ≡ value y)) → ((x : X) → fed x ≡ fed_value (value x))
      → CompareTogether eq (on value cmp) fed
  by_value eq fed_value fed same is = record {
    equal = λ x y. let e = order.exact (value x) (value y) in let s = same x y in
        (λ h. s.1 (e.0 h), λ h. e.1 (s.0 h));
    alike = λ x y h. is x ∙ ap fed_value ((same x y).0 h) ∙ sym (is y);
  }
