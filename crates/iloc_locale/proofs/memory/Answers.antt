use Rattle.iloc_locale.proofs.ReadLemmas.{wants_language, inline_wants_none}
use Rattle.iloc_locale.proofs.NormalLemmas.{normal_inline}
use Rattle.iloc_locale.proofs.memory.Goals as goal

pub returns-clause-language : goal.returns-clause-language
returns-clause-language c = wants_language

pub returns-clause-inline : goal.returns-clause-inline
returns-clause-inline c = inline_wants_none

pub returns-clause-normal : goal.returns-clause-normal
returns-clause-normal c = normal_inline
