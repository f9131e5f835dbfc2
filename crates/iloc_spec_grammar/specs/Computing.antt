-- Plain programs for what a text means and why it is refused. The rules of the tree become tests of
-- what Reading reads; the law `computed` says that the answers are those of `Means` and `HasFault`,
-- so examples can be computed.
use Rattle.std.specs.Prelude.{ℕ, ◌+◌, Bool, true, not, ◌&&◌, ◌||◌, ◌==◌, List, [], ◌∷◌, length, map, Option}
use Rattle.std.specs.Prelude.{Some, None, is_some, Result, Ok, Err, nat_lt, if◌then◌else◌}
use Rattle.std.specs.Char.{is_ascii_alphanumeric, to_ascii_lowercase}
use Rattle.std.specs.Int.{is_in_range}
use Rattle.std.specs.List.{list_any, list_all}
use Rattle.std.specs.Ordering.{nat_cmp, eq_by_cmp}
use Rattle.std.specs.declared.cmp.Ordering.{Ordering}
use Rattle.iloc_spec_grammar.specs.Syntax.{Text, LanguageLengths, Field, Block, code_t, code_u, code_x}
use Rattle.iloc_spec_grammar.specs.Syntax.{pieces, Language, Script, Region, Variant, UnicodeKey}
use Rattle.iloc_spec_grammar.specs.Syntax.{TransformKey, Attribute, PrivateSubtag, is_word, lower, word_cmp}
use Rattle.iloc_spec_grammar.specs.Syntax.{SpelledIdentifier, SpelledUnicode, SpelledTransform, Identifier}
use Rattle.iloc_spec_grammar.specs.Syntax.{kept, is_other_singleton, lower_singleton, first_piece, head}
use Rattle.iloc_spec_grammar.specs.Syntax.{tail_blocks}
use Rattle.iloc_spec_grammar.specs.Tree.{Extension, unicode, transform, other, meaning}
use Rattle.iloc_spec_grammar.specs.Meaning.{Locale, normal_identifier, Fault, InvalidLanguage, InvalidSubtag}
use Rattle.iloc_spec_grammar.specs.Meaning.{InvalidExtension, DuplicatedExtension}
use Rattle.iloc_spec_grammar.specs.Values.{text, identifier_text}
use Rattle.iloc_spec_grammar.specs.Reading.{identifier_of, front_of, extension_of, written_of}

-- Tests of the rules.

-- computes `IfSome`: whether what is there passes the test
abbrev pub holds_if_some : {X : Type 0} → (X → Bool) → Option X → Bool
holds_if_some test None = true
holds_if_some test (Some x) = test x

-- computes `AllDifferent`: whether no item ties with a later one
abbrev pub all_different : {X : Type 0} → (X → X → Ordering) → List X → Bool
all_different cmp [] = true
all_different cmp (x ∷ xs) = not (list_any (eq_by_cmp cmp x) xs) && all_different cmp xs

-- computes `HasWords`: whether each piece is a word of its kind
abbrev pub has_words : LanguageLengths → SpelledIdentifier → Bool
has_words T i = (is_word (Language T) i.language && holds_if_some (is_word Script) i.script)
    && (holds_if_some (is_word Region) i.region && list_all (is_word Variant) i.variants)

-- computes `IsIdentifier`: such words, no variant twice
abbrev pub is_identifier : LanguageLengths → SpelledIdentifier → Bool
is_identifier T i = has_words T i && all_different word_cmp (map lower i.variants)

-- computes `IsKeyword`: a key and its values
abbrev pub is_keyword : Field → Bool
is_keyword (key, values) = is_word UnicodeKey key && list_all (is_word Attribute) values

-- computes `IsUnicodeBlock`: attributes and keywords, one at least
abbrev pub is_unicode : SpelledUnicode → Bool
is_unicode u = (list_all (is_word Attribute) u.attributes && list_all is_keyword u.keywords)
    && nat_lt 0 (length u.attributes + length u.keywords)

-- computes `IsField`: a key and one value or more
abbrev pub is_field : Field → Bool
is_field (key, values) = (is_word TransformKey key && list_all (is_word Attribute) values)
    && nat_lt 0 (length values)

-- computes `IsTransformBlock`: perhaps an identifier, and fields, not both absent
abbrev pub is_transform : LanguageLengths → SpelledTransform → Bool
is_transform T m = (holds_if_some (is_identifier T) m.id && list_all is_field m.fields)
    && (is_some m.id || nat_lt 0 (length m.fields))

-- computes `IsOther`: pieces of 2 to 8 bytes, of which one at least is a word
abbrev pub is_other : List Text → Bool
is_other ps = list_all (λ p. is_in_range 2 8 (length p)) ps && nat_lt 0 (length (kept ps))

-- computes `IsPrivate`: private words, one at least
abbrev pub is_private : List Text → Bool
is_private ps = list_all (is_word PrivateSubtag) ps && nat_lt 0 (length ps)

-- computes `IsExtension`: the extension follows the rule of its singleton
abbrev pub is_extension : LanguageLengths → ℕ → Extension → Bool
is_extension T c (unicode u) = (c == code_u) && is_unicode u
is_extension T c (transform m) = (c == code_t) && is_transform T m
is_extension T c (other ps) = is_other_singleton c && is_other ps

-- computes `IsBlock`: the block follows the rule of its singleton
abbrev pub is_block : LanguageLengths → Block → Bool
is_block T (c, ps) = ((to_ascii_lowercase c == code_x) && is_private ps)
    || is_extension T (to_ascii_lowercase c) (extension_of (to_ascii_lowercase c) ps)

-- computes `RepeatsVariant`: an identifier's front of which a variant stands twice
abbrev pub repeats_variant : LanguageLengths → List Text → Bool
repeats_variant T ps = is_word (Language T) (first_piece ps)
    && not (all_different word_cmp (map lower (front_of ps).variants))

-- Answers.

-- what pieces are as an identifier
abbrev pub identifier_result : LanguageLengths → List Text → Result Identifier Fault
identifier_result T ps =
    if not (is_word (Language T) (first_piece ps)) then Err InvalidLanguage else
    if not (is_identifier T (identifier_of ps)) then Err InvalidSubtag else
    Ok (normal_identifier (identifier_of ps))

-- the fault of the first bad block, after blocks with the singletons in seen
abbrev pub first_fault : LanguageLengths → Text → List Block → Option Fault
first_fault T seen [] = None
first_fault T seen (b ∷ bs) =
    if not (is_ascii_alphanumeric b.0) then Some InvalidExtension else
    if list_any (eq_by_cmp nat_cmp (lower_singleton b)) seen then Some DuplicatedExtension else
    if is_block T b then first_fault T (lower_singleton b ∷ seen) bs else
    if (lower_singleton b == code_t) && repeats_variant T b.1 then Some InvalidSubtag else
    Some InvalidExtension

-- the value, or the fault if there is one
abbrev pub unless_fault : {X : Type 0} → Option Fault → X → Result X Fault
unless_fault None x = Ok x
unless_fault (Some f) x = Err f

-- what a text is as a locale
unfoldable pub locale_result : LanguageLengths → Text → Result Locale Fault
locale_result T t =
    if not (is_word (Language T) (first_piece (pieces t))) then Err InvalidLanguage else
    if not (is_identifier T (identifier_of (head (pieces t)))) then Err InvalidSubtag else
    unless_fault (first_fault T [] (tail_blocks (pieces t))) (meaning (written_of (pieces t)))

-- the normal text of what a text means, as an identifier and as a locale

abbrev pub identifier_text_of : Result Identifier Fault → Result Text Fault
identifier_text_of (Ok i) = Ok (identifier_text i)
identifier_text_of (Err f) = Err f

abbrev pub computed_text : Result Locale Fault → Result Text Fault
computed_text (Ok M) = Ok (text M)
computed_text (Err f) = Err f
