use Rattle.iloc_langid.proofs.EqualityLemmas.{same_words, equal_words, same_value, equal_values}
use Rattle.iloc_langid.proofs.equality.Goals as goal

pub returns-clause-variants : goal.returns-clause-variants
returns-clause-variants c v w = (same_words v w, equal_words v w)

pub returns-clause-identifiers : goal.returns-clause-identifiers
returns-clause-identifiers c i j = (same_value i j, equal_values i j)
