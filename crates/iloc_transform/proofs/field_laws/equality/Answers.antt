use Rattle.iloc_transform.proofs.FieldsEqualityLemmas.{fields_decide}
use Rattle.iloc_transform.proofs.field_laws.equality.Goals as goal
use Rattle.iloc_other.proofs.EqualityLemmas.{words_decide}

pub returns-clause-values : goal.returns-clause-values
returns-clause-values c = words_decide

pub returns-clause-fields : goal.returns-clause-fields
returns-clause-fields c = fields_decide
