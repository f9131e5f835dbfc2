-- What the parser of a list of scripts returns. This library's rule.
use Rattle.std.specs.Prelude.{◌≡◌, ◌<◌, ℕ, List, length, Some, None, Result, Ok, Err, ⊤}
use Rattle.iloc_spec_grammar.specs.Syntax.{Text}
use Rattle.iloc_memory.specs.Refusals.{RefusedWithin}
use Rattle.iloc_spec_parts.specs.Keywords.{scripts_read}
use Rattle.iloc_word_list.specs.declared.errors.PreferencesParseError.{PreferencesParseError}
use Rattle.iloc_word_list.specs.declared.errors.PreferencesParseError.TheVariants.{InvalidKeywordValue}
use Rattle.iloc_word_list.specs.declared.errors.PreferencesParseError.TheVariants.{OutOfMemory}

-- The list is read as these scripts, or refused; memory may run out only for a fifth one.
abbrev pub ReadsScripts : List Text → Result (List Text) PreferencesParseError → Type 0
ReadsScripts ws (Ok scripts) = scripts_read ws ≡ Some scripts
ReadsScripts ws (Err InvalidKeywordValue) = scripts_read ws ≡ None
ReadsScripts ws (Err OutOfMemory) = 4 < length ws

-- Memory runs out only if room for at most as many scripts as the list has subtags was refused.
abbrev pub ScriptsRunOut : (ℕ → Type 0) → List Text → Result (List Text) PreferencesParseError
    → Type 0
ScriptsRunOut Refused ws (Err OutOfMemory) = RefusedWithin Refused (length ws)
ScriptsRunOut Refused ws _ = ⊤
