-- a text is read as its bytes are
use Rattle.std.proofs.Common.{subst}
use Rattle.iloc_data.specs.Reads.{DataTextReads}
use Rattle.iloc_data.proofs.ReadLemmas.{data_accepts, data_refuses, if_read, is_meant, keeps_narrow}
use Rattle.iloc_data.proofs.data_locale.DataLocale.try_from_str.Goals as goal
use Rattle.iloc_spec_grammar.specs.Syntax.{Text}

pub returns-clause-reads : goal.returns-clause-reads
returns-clause-reads c = subst (λ (t : Text). DataTextReads t c.try_from_utf8.result)
    c.as_bytes.ensures.value c.try_from_utf8.ensures.reads

pub returns-clause-memory : goal.returns-clause-memory
returns-clause-memory c = c.try_from_utf8.ensures.memory

pub returns-clause-accepted : goal.returns-clause-accepted
returns-clause-accepted c = data_accepts c.args.s.now c.try_from_utf8.result (returns-clause-reads c)

pub returns-clause-refused : goal.returns-clause-refused
returns-clause-refused c = data_refuses c.args.s.now c.try_from_utf8.result (returns-clause-reads c)

pub returns-clause-narrow : goal.returns-clause-narrow
returns-clause-narrow c = keeps_narrow c.args.s.now c.try_from_utf8.result (returns-clause-reads c)

pub returns-clause-meant : goal.returns-clause-meant
returns-clause-meant c = if_read c.args.s.now is_meant c.try_from_utf8.result (returns-clause-reads c)
