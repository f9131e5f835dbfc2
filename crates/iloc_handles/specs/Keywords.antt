-- The keywords of a locale.
use Rattle.std.specs.Prelude.{◌≤◌, List, length}
use Rattle.iloc_spec_grammar.specs.Syntax.{Text, Fields}
use Rattle.iloc_spec_grammar.specs.Meaning.{Locale}
use Rattle.iloc_spec_parts.specs.PartValues.{unicode_value}
use Rattle.iloc_word_list.specs.Reads.{ValueTextWants}
use Rattle.iloc_handles.specs.Pairs.{Map}

-- the keywords
abbrev pub keywords_of : Locale → Fields
keywords_of M = M.extensions.unicode.keywords

-- the keywords are others, and all else is the same
abbrev pub with_keywords : Fields → Locale → Locale
with_keywords ks M =
    let u = M.extensions.unicode in
    record M { extensions = record M.extensions { unicode = record u { keywords = ks } } }

-- memory may be wanted only for a value of more than four subtags, or beside another keyword
abbrev pub keywords : Map (List Text)
keywords = record {
  pairs = keywords_of;
  with_pairs = with_keywords;
  value = unicode_value;
  ValueWants = ValueTextWants;
  KeyWants = λ k ks. 1 ≤ length ks;
}
