-- What an iterator has left.
use Rattle.std.specs.Prelude.{List, [], cond, length, nat_le}
use Rattle.iloc_spec_grammar.specs.Syntax.{Text, pieces}
use Rattle.iloc_subtags.specs.declared.subtag_iterator.SubtagIterator.{SubtagIterator}

-- the pieces that are left: none if the length of the next is beyond the text
unfoldable pub left : SubtagIterator → List Text
left it = cond (nat_le it.len (length it.text.now)) (pieces it.text.now) []
