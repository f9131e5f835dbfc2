-- What each call tells is the second that the trait allows.
use Rattle.std.proofs.Common.{inr}
use Rattle.iloc_keyword_types.proofs.ReadingLemmas.{never_runs_out}
use Rattle.iloc_keyword_types.proofs.enum_keyword.AnyPreferenceKey.TheImpl.Goals as goal

pub try_from_key_value-tells : goal.try_from_key_value-tells
try_from_key_value-tells g c = inr c.ensures

pub try_from_key_value_in-tells : goal.try_from_key_value_in-tells
try_from_key_value_in-tells g c = record {
  reads = inr c.ensures;
  out_of_memory = never_runs_out _ _ _ _ _ _ c.result c.ensures;
}

pub unicode_extension_key-tells : goal.unicode_extension_key-tells
unicode_extension_key-tells g c = inr c.ensures

pub unicode_extension_value-tells : goal.unicode_extension_value-tells
unicode_extension_value-tells g c = inr c.ensures

pub unicode_extension_value_in-tells : goal.unicode_extension_value_in-tells
unicode_extension_value_in-tells g c = record { gives = inr c.ensures; out_of_memory = rw c.ensures.2 tt }
