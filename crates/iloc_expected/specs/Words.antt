-- The words of a set of kinds: `a script, a region, a variant or an extension`. This library's rule.
use Rattle.std.specs.Prelude.{ℕ, List, [], ◌∷◌, ◌++◌, drop, filter, codes, if◌then◌else◌}
use Rattle.iloc_spec_grammar.specs.Syntax.{Text}
use Rattle.iloc_expected.specs.Kinds.{has}
use Rattle.iloc_expected.specs.declared.kinds.Expected.{Expected}
use Rattle.iloc_expected.specs.declared.kinds.PieceKind.{PieceKind}
use Rattle.iloc_expected.specs.declared.kinds.PieceKind.TheVariants.{Language, Script, Region, Variant}
use Rattle.iloc_expected.specs.declared.kinds.PieceKind.TheVariants.{Singleton, Attribute, Key, Value, Field}
use Rattle.iloc_expected.specs.declared.kinds.PieceKind.TheVariants.{Other, Private, FieldValue, End}

-- the words of a kind
abbrev pub kind_words : PieceKind → Text
kind_words Language = codes "a language"
kind_words Script = codes "a script"
kind_words Region = codes "a region"
kind_words Variant = codes "a variant"
kind_words Singleton = codes "an extension"
kind_words Attribute = codes "an attribute"
kind_words Key = codes "a key"
kind_words Value = codes "a value"
kind_words Field = codes "a key of a field"
kind_words Other = codes "a subtag of the extension"
kind_words Private = codes "a private subtag"
kind_words FieldValue = codes "a value of a field"
kind_words End = codes "the end"

-- the kinds of pieces in the order of their numbers
abbrev pub piece_kinds : List PieceKind
piece_kinds = Language ∷ Script ∷ Region ∷ Variant ∷ Singleton ∷ Attribute ∷ Key ∷ Value ∷ Field
    ∷ Other ∷ Private ∷ FieldValue ∷ []

-- those in the set from a number on
abbrev pub named_from : Expected → ℕ → List PieceKind
named_from set number = filter (has set) (drop number piece_kinds)

-- what stands before the next words: ` or ` if they are the last
abbrev pub before_next : List PieceKind → Text
before_next [] = codes " or "
before_next (k ∷ ks) = codes ", "

-- the words of the kinds after the first one
abbrev pub after_first : List PieceKind → Text
after_first [] = []
after_first (k ∷ ks) = before_next ks ++ (kind_words k ++ after_first ks)

-- the words of a set: its kinds of pieces. The end is named only if there are none, since words
-- about a piece say what may stand in its place.
abbrev pub words_of_kinds : Expected → List PieceKind → Text
words_of_kinds set [] = if has set End then codes "the end" else codes "nothing"
words_of_kinds set (k ∷ ks) = kind_words k ++ after_first ks

-- the words of the kinds that are in the set
abbrev pub words_of : Expected → Text
words_of set = words_of_kinds set (named_from set 0)
