-- A keyword that was read, as what its value reads as.
use Rattle.std.proofs.Common.{◌≡◌, Option, Result, Ok, Err, sym, option_map}
use Rattle.std.specs.Result.{result_ok}
use Rattle.iloc_keyword_types.specs.Reads.{Reads}
use Rattle.iloc_word_list.specs.declared.errors.PreferencesParseError.{PreferencesParseError}
use Rattle.iloc_word_list.specs.declared.errors.PreferencesParseError.TheVariants.{InvalidKeywordValue, OutOfMemory}

module _ {X V : Type 0} (stands : X → V) where
  pub what_is_read : (o : Option V) (r : Result X PreferencesParseError) → Reads stands o r →
      option_map stands (result_ok r) ≡ o
  what_is_read o (Ok x) h = sym h
  what_is_read o (Err InvalidKeywordValue) h = sym h
  what_is_read o (Err OutOfMemory) h = absurd h
