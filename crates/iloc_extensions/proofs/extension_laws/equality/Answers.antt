use Rattle.iloc_transform.proofs.FieldsEqualityLemmas.{fields_decide}
use Rattle.iloc_transform.proofs.EqualityLemmas.{identifier_decides, transform_decides}
use Rattle.iloc_extensions.proofs.ExtensionsEquality.{parts_decide}
use Rattle.iloc_extensions.proofs.extension_laws.equality.Goals as goal

pub returns : goal.returns
returns c = parts_decide _ (transform_decides _ _ identifier_decides fields_decide)
