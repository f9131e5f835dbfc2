-- From the part of a region that it is made of.
use Rattle.iloc_spec_parts.proofs.DataLaws.{read_is_data_locale, read_back, text_of_data, locale_of_data_is_value, locale_of_data_is_well_formed, only_locale}
use Rattle.iloc_spec_parts.proofs.regions.data_locales.Goals as goal

pub returns : goal.returns
returns c = search (
  read_is_data_locale,
  read_back,
  text_of_data,
  locale_of_data_is_value,
  locale_of_data_is_well_formed,
  only_locale,
)
