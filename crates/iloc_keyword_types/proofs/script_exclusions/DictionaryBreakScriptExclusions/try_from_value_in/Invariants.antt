-- The scripts so far, with what the rest reads as, are what all reads as.
use Rattle.std.proofs.Common.{◌≡◌, length, drop}
use Rattle.iloc_spec_parts.specs.Keywords.{scripts_read}
use Rattle.iloc_keyword_types.proofs.ScriptLemmas.{together}
use Rattle.iloc_keyword_types.proofs.script_exclusions.DictionaryBreakScriptExclusions.try_from_value_in.Given as goal

abbrev pub invariant-loop-subtag : goal.invariant-loop-subtag
invariant-loop-subtag g l =
    (together l.scripts (scripts_read (drop l.subtag-index l.subtags)) ≡ scripts_read l.subtags)
    × (length l.scripts ≡ l.subtag-index)
