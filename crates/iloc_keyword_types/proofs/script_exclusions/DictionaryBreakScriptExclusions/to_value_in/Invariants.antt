-- The subtags so far, and those of the rest, are those of all; and there is room for them.
use Rattle.std.proofs.Common.{◌≡◌, ◌≤◌, ◌++◌, drop, length, vec_capacity}
use Rattle.iloc_spec_parts.specs.Keywords.{scripts_give}
use Rattle.iloc_keyword_types.proofs.script_exclusions.DictionaryBreakScriptExclusions.to_value_in.Given as goal

abbrev pub invariant-loop-script : goal.invariant-loop-script
invariant-loop-script g l = record {
  given : l.subtags.items ++ scripts_give (drop l.script-index l.scripts) ≡ scripts_give l.scripts;
  count : length l.subtags.items ≡ l.script-index;
  room : length l.scripts ≤ vec_capacity l.subtags;
}
