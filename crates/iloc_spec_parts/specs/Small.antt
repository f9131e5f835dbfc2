-- Small texts: an identifier with at most one variant, and after it nothing, or `u`, a key and at
-- most one value besides `true`, as in `en-US-u-ca-buddhist`. They are the part of UTS #35's
-- unicode_locale_id that is read without allocating; where it ends, and how the others are refused,
-- is this project's rule.
use Rattle.std.specs.Prelude.{◌≡◌, ◌≢◌, ◌≤◌, true, false, List, [], ◌∷◌, length, Option, IfSome, option_map}
use Rattle.std.specs.Prelude.{option_to_list}
use Rattle.std.specs.Char.{is_ascii_alphanumeric}
use Rattle.iloc_spec_grammar.specs.Syntax.{Text, LanguageLengths, Field, Block, code_u, pieces, Language}
use Rattle.iloc_spec_grammar.specs.Syntax.{Script, Region, Variant, UnicodeKey, Attribute, is_word, IsWord}
use Rattle.iloc_spec_grammar.specs.Syntax.{is_true, Identifier, lower_singleton, head, tail_blocks}
use Rattle.iloc_spec_grammar.specs.Syntax.{first_piece}
use Rattle.iloc_spec_grammar.specs.Meaning.{Locale, SpelledExtensions, just_unicode, IdentifierMeans}
use Rattle.iloc_spec_grammar.specs.Meaning.{SpellsExtensions, normal_extensions, Fault, InvalidLanguage}
use Rattle.iloc_spec_grammar.specs.Meaning.{InvalidSubtag, InvalidExtension}
use Rattle.iloc_spec_grammar.specs.Values.{IsNormal}

-- What is read.

-- an identifier with one variant at most
pub record SmallIdentifier : Type 0 where
  pub language : Text
  pub script : Option Text
  pub region : Option Text
  pub variant : Option Text

-- an identifier, and perhaps a keyword with its key and perhaps a value
pub record SmallLocale : Type 0 where
  pub id : SmallIdentifier
  pub keyword : Option (Text × Option Text)

-- The identifier and the locale of the same parts, the others empty.

-- the identifier of the same words
abbrev pub identifier_of_small : SmallIdentifier → Identifier
identifier_of_small i = record {
  language = i.language;
  script = i.script;
  region = i.region;
  variants = option_to_list i.variant;
}

-- the keyword of the same key, with one value at most
abbrev pub keyword_of_small : Text × Option Text → Field
keyword_of_small (key, value) = (key, option_to_list value)

-- the locale of the same identifier and keyword, and of nothing else
abbrev pub locale_of_small : SmallLocale → Locale
locale_of_small r = record {
  id = identifier_of_small r.id;
  extensions = just_unicode
      (record {
        attributes = [];
        keywords = option_to_list (option_map keyword_of_small r.keyword);
      });
}

-- the pieces mean an identifier with at most one variant
abbrev pub IsSmallIdentifier : LanguageLengths → List Text → SmallIdentifier → Type 0
IsSmallIdentifier T ps i = IdentifierMeans T ps (identifier_of_small i)

-- The text means such a locale, and one keyword at most is written.
pub record IsSmall (T : LanguageLengths) (t : Text) (r : SmallLocale) : Type 0 where
  pub id : IsSmallIdentifier T (head (pieces t)) r.id
  pub written : SpelledExtensions
  pub spelled : SpellsExtensions T (tail_blocks (pieces t)) written
  pub one_keyword : length written.unicode.keywords ≤ 1
  pub means : (locale_of_small r).extensions ≡ normal_extensions written

-- Why a text isn't small.

-- The pieces are no identifier with at most one variant, for this reason.
pub data HasSmallIdentifierFault (T : LanguageLengths) (ps : List Text) : Fault → Type 0 where
  no_language : is_word (Language T) (first_piece ps) ≡ false
      → HasSmallIdentifierFault T ps InvalidLanguage
  no_identifier : IsWord (Language T) (first_piece ps)
      → ((i : SmallIdentifier) → ¬ (IsSmallIdentifier T ps i))
      → HasSmallIdentifierFault T ps InvalidSubtag

-- What is wrong with the first block of a text that isn't small: no singleton, not `u`, an
-- attribute, no key, or anything after the key.
pub data SmallBlockFault (b : Block) : Fault → Type 0 where
  no_singleton : is_ascii_alphanumeric b.0 ≡ false → SmallBlockFault b InvalidExtension
  not_u : is_ascii_alphanumeric b.0 ≡ true → lower_singleton b ≢ code_u
      → SmallBlockFault b InvalidSubtag
  attribute : lower_singleton b ≡ code_u → IsWord Attribute (first_piece b.1)
      → SmallBlockFault b InvalidSubtag
  no_key : lower_singleton b ≡ code_u → is_word Attribute (first_piece b.1) ≡ false
      → is_word UnicodeKey (first_piece b.1) ≡ false → SmallBlockFault b InvalidExtension
  after_key : lower_singleton b ≡ code_u → IsWord UnicodeKey (first_piece b.1)
      → SmallBlockFault b InvalidSubtag

-- The text is not small, for this reason: its head, or else its first block.
pub data HasSmallFault (T : LanguageLengths) (t : Text) : Fault → Type 0 where
  bad_head : {f : Fault} → HasSmallIdentifierFault T (head (pieces t)) f → HasSmallFault T t f
  bad_block : {f : Fault} (i : SmallIdentifier) {b : Block} {bs : List Block}
      → IsSmallIdentifier T (head (pieces t)) i → ((r : SmallLocale) → ¬ (IsSmall T t r))
      → tail_blocks (pieces t) ≡ b ∷ bs → SmallBlockFault b f → HasSmallFault T t f

-- what is read is of normal words, and no value is `true`
pub record IsSmallValue (T : LanguageLengths) (r : SmallLocale) : Type 0 where
  pub language : IsNormal (Language T) r.id.language
  pub script : IfSome r.id.script (IsNormal Script)
  pub region : IfSome r.id.region (IsNormal Region)
  pub variant : IfSome r.id.variant (IsNormal Variant)
  pub key : IfSome r.keyword (λ (key, _). IsNormal UnicodeKey key)
  pub value : IfSome r.keyword
      (λ (_, value). IfSome value (λ w. IsNormal Attribute w × (is_true w ≡ false)))
