use Rattle.iloc_spec_parts.proofs.OrderLaws.{identifier_exact}
use Rattle.iloc_langid.specs.Reads.{value_of}
use Rattle.iloc_langid.proofs.EqualityLemmas.{same_value, equal_values}
use Rattle.iloc_langid.proofs.orders.Goals as goal

pub returns-clause-identifiers : goal.returns-clause-identifiers
returns-clause-identifiers c i j =
    let exact = identifier_exact.exact (value_of i) (value_of j) in
    (λ t. equal_values i j (exact.0 t), λ h. exact.1 (same_value i j h))
