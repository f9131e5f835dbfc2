-- What a piece of an accepted text is, by the pieces before it: `latn` is a script in `en-latn`, and
-- a value in `en-u-nu-latn`. Restates the parts of UTS #35, section 3, with their names. In an
-- accepted text each piece fits where it stands, so little tells what it is.
use Rattle.std.specs.Prelude.{ℕ, Bool, ◌==◌, List, [], ◌∷◌, Option, Some, None, if◌then◌else◌}
use Rattle.std.specs.List.{list_any}
use Rattle.std.specs.Char.{to_ascii_lowercase}
use Rattle.std.specs.Int.{bit_at}
use Rattle.iloc_spec_grammar.specs.Syntax.{Text, Block, code_t, code_u, code_x, blocks, is_word, is_one_byte}
use Rattle.iloc_spec_grammar.specs.Syntax.{TransformKey, UnicodeKey}
use Rattle.iloc_spec_grammar.specs.Syntax as words
use Rattle.iloc_expected.specs.declared.kinds.Expected.{Expected}
use Rattle.iloc_expected.specs.declared.kinds.PieceKind.{PieceKind}
use Rattle.iloc_expected.specs.declared.kinds.PieceKind.TheVariants.{Language, Script, Region, Variant}
use Rattle.iloc_expected.specs.declared.kinds.PieceKind.TheVariants.{Singleton, Attribute, Key, Value, Field}
use Rattle.iloc_expected.specs.declared.kinds.PieceKind.TheVariants.{Other, Private, FieldValue, End}

-- where a piece stands: at the beginning; behind the language, in the identifier; or in an
-- extension, behind its singleton in lower case and these pieces
pub data Place : Type 0 where
  AtBeginning InIdentifier : Place
  InExtension : ℕ → List Text → Place

-- the last of the blocks, if there is one
abbrev pub last_block : List Block → Option Block
last_block [] = None
last_block (b ∷ []) = Some b
last_block (b ∷ bs) = last_block bs

-- in this block, or in none
abbrev pub place_in : Option Block → Place
place_in None = InIdentifier
place_in (Some (c, ps)) = InExtension (to_ascii_lowercase c) ps

-- where the piece after these stands: in the last block that begins among them (UTS #35 3.2,
-- `extensions`)
abbrev pub place_after : List Text → Place
place_after [] = AtBeginning
place_after (p ∷ ps) = place_in (last_block (blocks ps))

-- a word behind a language (UTS #35 3.1, `unicode_language_id`)
abbrev pub identifier_kind : Text → PieceKind
identifier_kind p = if is_word words.Script p then Script else
    if is_word words.Region p then Region else Variant

-- a piece of `t`, after those of it: perhaps an identifier, and then fields (UTS #35 3.2,
-- `transformed_extensions`)
abbrev pub transform_kind : List Text → Text → PieceKind
transform_kind [] p = if is_word TransformKey p then Field else Language
transform_kind (q ∷ qs) p = if is_word TransformKey p then Field else
    if list_any (is_word TransformKey) (q ∷ qs) then FieldValue else identifier_kind p

-- a piece of `u`, after those of it: attributes, and then keywords (UTS #35 3.2,
-- `unicode_locale_extensions`)
abbrev pub unicode_kind : List Text → Text → PieceKind
unicode_kind qs p = if is_word UnicodeKey p then Key else
    if list_any (is_word UnicodeKey) qs then Value else Attribute

-- a piece of the extension of this singleton, after those of it, or the singleton of the next one;
-- all that follows `x` is private (UTS #35 3.2, `pu_extensions`, `other_extensions`)
abbrev pub extension_kind : ℕ → List Text → Text → PieceKind
extension_kind c qs p = if c == code_x then Private else
    if is_one_byte p then Singleton else
    if c == code_t then transform_kind qs p else
    if c == code_u then unicode_kind qs p else Other

-- what the piece is that stands there
abbrev pub kind_at : Place → Text → PieceKind
kind_at AtBeginning p = Language
kind_at InIdentifier p = if is_one_byte p then Singleton else identifier_kind p
kind_at (InExtension c qs) p = extension_kind c qs p

-- the number of a kind, by which callers of other languages know it. This library's rule.
abbrev pub kind_bit : PieceKind → ℕ
kind_bit Language = 0
kind_bit Script = 1
kind_bit Region = 2
kind_bit Variant = 3
kind_bit Singleton = 4
kind_bit Attribute = 5
kind_bit Key = 6
kind_bit Value = 7
kind_bit Field = 8
kind_bit Other = 9
kind_bit Private = 10
kind_bit FieldValue = 11
kind_bit End = 12

-- whether the kind is in the set: its bit is set
abbrev pub has : Expected → PieceKind → Bool
has set kind = bit_at set.bits (kind_bit kind) == 1
