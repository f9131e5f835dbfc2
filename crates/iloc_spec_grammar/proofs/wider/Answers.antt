-- Each word and rule over the narrower table is one over the wider.
use Rattle.iloc_spec_grammar.proofs.WiderTables.{language, identifier_means_wider, means_wider, means_ours}
use Rattle.iloc_spec_grammar.proofs.wider.Goals as goal

pub returns : goal.returns
returns c = search (language, identifier_means_wider, means_wider, means_ours)
