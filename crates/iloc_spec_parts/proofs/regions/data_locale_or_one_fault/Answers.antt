-- From small texts.
use Rattle.iloc_spec_parts.proofs.DataLaws.{data_answer, one_data, data_or_fault, data_apart, one_data_fault}
use Rattle.iloc_spec_parts.proofs.regions.data_locale_or_one_fault.Goals as goal

pub returns : goal.returns
returns c = search (one_data, data_or_fault, data_apart, one_data_fault, data_answer)
