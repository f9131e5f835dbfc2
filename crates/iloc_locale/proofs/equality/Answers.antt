use Rattle.iloc_locale.proofs.EqualityLemmas.{locales_decide}
use Rattle.iloc_locale.proofs.equality.Goals as goal

pub returns : goal.returns
returns c = locales_decide _ _ c.equality.ensures.identifiers c.equality-2.ensures
