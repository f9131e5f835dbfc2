-- What keywords end as, when one of their values is lent.
use Rattle.std.specs.Prelude.{List, Option}
use Rattle.std.specs.Borrow.{LendsIf, Fml, MutBor}
use Rattle.std.specs.FinMap.{put}
use Rattle.iloc_spec_grammar.specs.Syntax.{Text, word_cmp, Fields}
use Rattle.iloc_word_list.specs.contracts.value.Value as value
use Rattle.iloc_unicode.specs.contracts.keywords.Keywords as keywords

-- once the borrow r ends, the key has the last value written through r, and at `None` the map stays
-- as it is
abbrev pub lends_value : MutBor Fields → Text → Option (MutBor (List Text)) → Fml
lends_value m k r = LendsIf keywords.the_row value.the_row m r (λ v. put word_cmp k v m.now) m.now
