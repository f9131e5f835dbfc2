use Rattle.iloc_pieces.proofs.MarkLemmas.{lengths_are, length_is}
use Rattle.iloc_pieces.proofs.marked.is_language_length.Goals as goal

pub returns-clause-exact : goal.returns-clause-exact
returns-clause-exact c = length_is c.args.len c.requires

pub returns-clause-is : goal.returns-clause-is
returns-clause-is c = λ h. (lengths_are c.args.len c.requires h).0

pub returns-clause-few : goal.returns-clause-few
returns-clause-few c = λ h. (lengths_are c.args.len c.requires h).1

pub returns-clause-some : goal.returns-clause-some
returns-clause-some c = λ h. (lengths_are c.args.len c.requires h).2
