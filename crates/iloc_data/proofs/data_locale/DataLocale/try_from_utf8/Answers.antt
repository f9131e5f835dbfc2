-- the clauses follow from what is read
use Rattle.iloc_data.proofs.ReadLemmas.{data_accepts, data_refuses, if_read, is_converted, is_meant, keeps_narrow, reads_back}
use Rattle.iloc_data.proofs.data_locale.DataLocale.try_from_utf8.Goals as goal

pub returns-clause-accepted : goal.returns-clause-accepted
returns-clause-accepted c = data_accepts c.args.code_units.now c.read.result c.read.ensures.reads

pub returns-clause-refused : goal.returns-clause-refused
returns-clause-refused c = data_refuses c.args.code_units.now c.read.result c.read.ensures.reads

pub returns-clause-narrow : goal.returns-clause-narrow
returns-clause-narrow c = keeps_narrow c.args.code_units.now c.read.result c.read.ensures.reads

pub returns-clause-back : goal.returns-clause-back
returns-clause-back c = if_read c.args.code_units.now reads_back c.read.result c.read.ensures.reads

pub returns-clause-converted : goal.returns-clause-converted
returns-clause-converted c = if_read c.args.code_units.now is_converted c.read.result c.read.ensures.reads

pub returns-clause-meant : goal.returns-clause-meant
returns-clause-meant c = if_read c.args.code_units.now is_meant c.read.result c.read.ensures.reads
