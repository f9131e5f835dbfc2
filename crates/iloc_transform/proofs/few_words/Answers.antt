use Rattle.iloc_transform.proofs.FewLemmas.{few_take_none}
use Rattle.iloc_transform.proofs.few_words.Goals as goal

pub returns : goal.returns
returns c = few_take_none
