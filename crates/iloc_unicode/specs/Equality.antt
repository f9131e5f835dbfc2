-- The equality tests of keywords and of the whole extension.
use Rattle.std.proofs.Common.{Bool, ◌&&◌, List, nat_eq}
use Rattle.iloc_spec_grammar.specs.Syntax.{Text, Fields, Unicode}
use lib.Pointwise.{pointwise}
use Rattle.iloc_word_list.specs.Equality.{words_eq}

-- the key, and then the value
abbrev pub pair_eq : Text × List Text → Text × List Text → Bool
pair_eq (k, vs) (l, ws) = pointwise nat_eq k l && words_eq vs ws

-- the equality test of keywords
abbrev pub fields_eq : Fields → Fields → Bool
fields_eq = pointwise pair_eq

-- the equality test of extensions
abbrev pub unicode_eq : Unicode → Unicode → Bool
unicode_eq u v = fields_eq u.keywords v.keywords && words_eq u.attributes v.attributes
