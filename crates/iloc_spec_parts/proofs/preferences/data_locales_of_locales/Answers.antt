-- By the region part that a keyword names.
use Rattle.iloc_spec_parts.proofs.SmallLaws.{small_means}
use Rattle.iloc_spec_parts.proofs.ConversionLaws.{agrees, key_of_identifier}
use Rattle.iloc_spec_parts.proofs.preferences.data_locales_of_locales.Goals as goal

pub returns : goal.returns
returns c = record {
  accepted = λ T t d h. (_, small_means t h.small h.is_small);
  read = λ T table t d M. agrees table t d M;
  identifier = key_of_identifier;
}
