-- Inline texts: locales of at most four words in each list and one keyword, which are read without
-- memory, since so many are kept inline. Every small text is one. This project's rule.
use Rattle.std.specs.Prelude.{◌≡◌, ℕ, ◌≤◌, if◌then◌else◌, [], length, IfSome, true, List, ◌∷◌, ◌++◌}
use Rattle.std.specs.List.{AllByRecursion}
use Rattle.std.specs.Char.{is_ascii_alphanumeric, to_ascii_lowercase}
use Rattle.iloc_spec_grammar.specs.Syntax.{Text, LanguageLengths, Block, code_t, code_u, code_x, pieces}
use Rattle.iloc_spec_grammar.specs.Syntax.{Language, IsWord, is_word, PrivateSubtag, first_piece}
use Rattle.iloc_spec_grammar.specs.Syntax.{Spelled, Meant, IdentifierOf, identifier_pieces, IsIdentifier}
use Rattle.iloc_spec_grammar.specs.Syntax.{IsOther, kept, is_other_singleton}
use Rattle.iloc_spec_grammar.specs.Meaning.{ExtensionsOf, IdentifierMeans, SpellsExtensions}
use Rattle.iloc_spec_grammar.specs.Meaning.{normal_identifier, normal_unicode, normal_values, normal_fields}
use Rattle.iloc_spec_grammar.specs.Meaning.{head, tail_blocks, AreBlocks, IsSecond, RepeatsVariant}
use Rattle.iloc_spec_grammar.specs.Reading.{passing, front_of, after_front}
use Rattle.iloc_spec_parts.specs.Fronts.{attributes_read, after_attributes, BeginsField, other_front}
use Rattle.iloc_spec_parts.specs.Fronts.{keywords_kept}

-- The text is a locale with few words: no transform fields, no other extensions, one keyword at
-- most, and at most four values besides `true` at each key as it is written.
pub record IsInline (T : LanguageLengths) (t : Text) : Type 0 where
  pub id : IdentifierOf Meant
  pub extensions : ExtensionsOf Spelled
  pub means : IdentifierMeans T (head (pieces t)) id
  pub spelled : SpellsExtensions T (tail_blocks (pieces t)) extensions
  pub variants : length id.variants ≤ 4
  pub attributes : length (normal_unicode extensions.unicode).attributes ≤ 4
  pub keywords : length (normal_unicode extensions.unicode).keywords ≤ 1
  pub values : AllByRecursion (λ (_, ws). length (normal_values ws) ≤ 4) extensions.unicode.keywords
  pub transform_variants : IfSome extensions.transform.id
      (λ i. length (normal_identifier i).variants ≤ 4)
  pub no_fields : extensions.transform.fields ≡ []
  pub private : length extensions.private ≤ 4
  pub no_others : extensions.others ≡ []

-- Inline texts, block by block: what the reader of each part finds at its front.

-- after `u`: four attributes at most, and of the keywords before a bad key one key, and four values
-- at each key as it is written
pub record IsShortUnicode (ps : List Text) : Type 0 where
  pub attributes : length (attributes_read ps) ≤ 4
  pub keys : length (normal_fields (keywords_kept (after_attributes ps))) ≤ 1
  pub values : AllByRecursion (λ (_, ws). length (normal_values ws) ≤ 4)
      (keywords_kept (after_attributes ps))

-- after `t`: four variants at most after a language; and no key with a value follows, unless a
-- variant stands twice
pub record IsShortTransform (T : LanguageLengths) (ps : List Text) : Type 0 where
  pub variants : IsWord (Language T) (first_piece ps) → length (front_of ps).variants ≤ 4
  pub no_field : ¬ (RepeatsVariant T ps)
      → ¬ (BeginsField (if is_word (Language T) (first_piece ps) then after_front ps else ps))

-- after another singleton: at most four words are before the fault, and the rule is broken
abbrev pub IsShortOther : List Text → Type 0
IsShortOther ps = (length (kept (other_front ps)) ≤ 4) × ¬ (IsOther ps)

-- after the singleton s in lower case, the pieces hold few words up to the end of their part, or up
-- to a fault; after `x`, four at most
pub record IsShortBody (T : LanguageLengths) (s : ℕ) (ps : List Text) : Type 0 where
  pub unicode : s ≡ code_u → IsShortUnicode ps
  pub transform : s ≡ code_t → IsShortTransform T ps
  pub private : s ≡ code_x → length (passing (is_word PrivateSubtag) ps) ≤ 4
  pub other : is_other_singleton s ≡ true → IsShortOther ps

-- the block has few words
abbrev pub IsShortBlock : LanguageLengths → Block → Type 0
IsShortBlock T (c, ps) = IsShortBody T (to_ascii_lowercase c) ps

-- A block that isn't short is reached: those before it are good, and its own singleton is a letter
-- or digit, and new. Only there may a reader of blocks allocate.
abbrev pub ReachesLongBlock : LanguageLengths → List Block → Type 0
ReachesLongBlock T bs = (good rest : List Block) × (c : ℕ) × (ps : List Text)
    × (bs ≡ good ++ ((c, ps) ∷ rest)) × AreBlocks T good × (is_ascii_alphanumeric c ≡ true)
    × ¬ (IsSecond good (c, ps)) × ¬ (IsShortBody T (to_ascii_lowercase c) ps)

-- the head has four variants at most, and each block after it is short
pub record IsInlineByBlocks (T : LanguageLengths) (t : Text) : Type 0 where
  pub variants : (i : IdentifierOf Spelled) → IsIdentifier T i
      → head (pieces t) ≡ identifier_pieces i → length i.variants ≤ 4
  pub short_blocks : AllByRecursion (IsShortBlock T) (tail_blocks (pieces t))
