-- A unicode part extended by another: the attributes of both, and the keywords of both, where at a
-- key of both the other's value stays. This project's rule, as in the Rust crate.
use Rattle.std.specs.Prelude.{◌++◌}
use Rattle.iloc_spec_grammar.specs.Syntax.{word_cmp, Unicode}
use Rattle.iloc_spec_grammar.specs.Meaning.{map_of, set_of}

-- the attributes of both, and the keywords of both: of equal keys that of v stays
abbrev pub extend : Unicode → Unicode → Unicode
extend u v = record {
  attributes = set_of (u.attributes ++ v.attributes);
  keywords = map_of word_cmp (v.keywords ++ u.keywords);
}
