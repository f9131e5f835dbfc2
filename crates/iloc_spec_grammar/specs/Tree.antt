-- The tree of a text: the grammar in another form. A text spells a tree, which has a meaning,
-- or its first bad block is found from the left. No contract of a type rests on it. Proofs do,
-- since a tree can be taken apart case by case: SameMeaning, SameFaults and SameText show that it
-- agrees with the definitions of Meaning and Values.
use Rattle.std.specs.Prelude.{◌≡◌, ℕ, ◌+◌, ◌<◌, true, false, ◌||◌, List, [], ◌∷◌, ◌++◌, length, map, filter}
use Rattle.std.specs.Prelude.{filter_map, flat_map, Option, Some, None, IfSome, option_map, option_to_list}
use Rattle.std.specs.Prelude.{is_some, nat_le, nat_lt, if◌then◌else◌, ◌⊎◌}
use Rattle.std.specs.Char.{is_ascii_alphanumeric, to_ascii_lowercase}
use Rattle.std.specs.List.{AllByRecursion, list_any}
use Rattle.std.specs.Ordering.{nat_cmp, eq_by_cmp}
use Rattle.std.specs.FinMap.{find}
use Rattle.iloc_spec_grammar.specs.Syntax.{Text, LanguageLengths, Block, code_t, code_u, code_x, join, pieces}
use Rattle.iloc_spec_grammar.specs.Syntax.{lower, Language, Attribute, IsKeyword, IsField, is_word, IsWord}
use Rattle.iloc_spec_grammar.specs.Syntax.{SpelledIdentifier, SpelledUnicode, SpelledTransform, Identifier}
use Rattle.iloc_spec_grammar.specs.Syntax.{Unicode, Transform, identifier_pieces, unicode_pieces}
use Rattle.iloc_spec_grammar.specs.Syntax.{transform_pieces, kept, IsIdentifier, IsOther, IsPrivate}
use Rattle.iloc_spec_grammar.specs.Syntax.{is_other_singleton, lower_singleton, AllDifferent, head}
use Rattle.iloc_spec_grammar.specs.Syntax.{tail_blocks, first_piece}
use Rattle.iloc_spec_grammar.specs.Meaning.{Locale, Extensions, map_of, normal_identifier, normal_unicode}
use Rattle.iloc_spec_grammar.specs.Meaning.{normal_transform, no_unicode, no_transform, Fault}
use Rattle.iloc_spec_grammar.specs.Meaning.{InvalidLanguage, InvalidSubtag, InvalidExtension}
use Rattle.iloc_spec_grammar.specs.Meaning.{DuplicatedExtension, SpellsIdentifier, RepeatsVariant}
use Rattle.iloc_spec_grammar.specs.Values.{AreWellFormed, lower_identifier, spelled_fields}

-- The tree, how it is spelled, and the rules that it follows.

-- attributes and keywords, one at least (UTS #35 3.2, `unicode_locale_extensions`)
pub record IsUnicodeBlock (u : SpelledUnicode) : Type 0 where
  pub attributes : AllByRecursion (IsWord Attribute) u.attributes
  pub keywords : AllByRecursion IsKeyword u.keywords
  pub nonempty : 0 < length u.attributes + length u.keywords

-- perhaps an identifier, and fields, not both absent (UTS #35 3.2, `transformed_extensions`)
pub record IsTransformBlock (T : LanguageLengths) (m : SpelledTransform) : Type 0 where
  pub id : IfSome m.id (IsIdentifier T)
  pub fields : AllByRecursion IsField m.fields
  pub nonempty : m.id ≡ None → 0 < length m.fields

-- what follows a singleton other than `x` (UTS #35 3.2, `extensions`); of another extension it is
-- any pieces
pub data Extension : Type 0 where
  unicode : SpelledUnicode → Extension
  transform : SpelledTransform → Extension
  other : List Text → Extension

-- a whole text: an identifier, extensions with their singletons, and the private part with its own
-- (UTS #35 3.2, `unicode_locale_id`)
pub record Written : Type 0 where
  pub id : SpelledIdentifier
  pub extensions : List (ℕ × Extension)
  pub private : Option Block

-- the pieces after the singleton of an extension
abbrev pub extension_pieces : Extension → List Text
extension_pieces (unicode u) = unicode_pieces u
extension_pieces (transform m) = transform_pieces m
extension_pieces (other ps) = ps

-- a block: its singleton, and the pieces after that
abbrev pub extension_block : ℕ × Extension → Block
extension_block (c, x) = (c, extension_pieces x)

-- the private part is the last block (UTS #35 3.2, `unicode_locale_id`)
abbrev pub blocks_of : Written → List Block
blocks_of w = map extension_block w.extensions ++ option_to_list w.private

-- the pieces of a block: its singleton is one of one byte
abbrev pub block_pieces : Block → List Text
block_pieces (c, ps) = (c ∷ []) ∷ ps

-- the pieces of the whole text; the singleton of a block is a piece of one byte
abbrev pub spelling : Written → List Text
spelling w = identifier_pieces w.id ++ flat_map block_pieces (blocks_of w)

-- the extension follows the rule of its singleton, which is given in lower case (UTS #35 3.2,
-- `extensions`)
abbrev pub IsExtension : LanguageLengths → ℕ → Extension → Type 0
IsExtension T c (unicode u) = (c ≡ code_u) × IsUnicodeBlock u
IsExtension T c (transform m) = (c ≡ code_t) × IsTransformBlock T m
IsExtension T c (other ps) = (is_other_singleton c ≡ true) × IsOther ps

-- an identifier, extensions of different singletons, and perhaps a private part (UTS #35 3.2,
-- `unicode_locale_id`)
pub record IsWritten (T : LanguageLengths) (w : Written) : Type 0 where
  pub id : IsIdentifier T w.id
  pub extensions : AllByRecursion (λ (c, x). IsExtension T (to_ascii_lowercase c) x) w.extensions
  pub different : AllDifferent nat_cmp (map (λ e. lower_singleton e) w.extensions)
  pub private : IfSome w.private (λ (c, ps). (to_ascii_lowercase c ≡ code_x) × IsPrivate ps)

-- What it means.

-- the part that a block gives; an absent block gives the empty part
abbrev pub unicode_part : Option Extension → Unicode
unicode_part (Some (unicode u)) = normal_unicode u
unicode_part _ = no_unicode

-- what the block of `t` means, if there is one
abbrev pub transform_part : Option Extension → Transform
transform_part (Some (transform m)) = normal_transform m
transform_part _ = no_transform

-- what the block of `x` means, if there is one: its words in lower case
abbrev pub private_part : Option Block → List Text
private_part None = []
private_part (Some (_, ps)) = map lower ps

-- the words that another extension keeps
abbrev pub other_part : ℕ × Extension → Option Block
other_part (c, other ps) = Some (c, kept ps)
other_part _ = None

-- extensions by their singletons in lower case (UTS #35 3.2.1)
abbrev pub by_singleton : {X : Type 0} → List (ℕ × X) → List (ℕ × X)
by_singleton es = map (λ (c, x). (to_ascii_lowercase c, x)) es

-- the parts are those of `u`, of `t`, of the private part and of the others
abbrev pub extensions_meaning : Written → Extensions
extensions_meaning w = let es = by_singleton w.extensions in record {
  unicode = unicode_part (find nat_cmp code_u es);
  transform = transform_part (find nat_cmp code_t es);
  private = private_part w.private;
  others = map_of nat_cmp (filter_map other_part es);
}

-- what a written text means: identifier and extensions, each in normal form (UTS #35 3.2.1)
abbrev pub meaning : Written → Locale
meaning w = record { id = normal_identifier w.id; extensions = extensions_meaning w }

-- the text is a locale that means M: some written locale follows the rules, is spelled by its
-- pieces, and means M
pub record TreeMeans (T : LanguageLengths) (t : Text) (M : Locale) : Type 0 where
  pub written : Written
  pub grammatical : IsWritten T written
  pub spelled : pieces t ≡ spelling written
  pub means : M ≡ meaning written

-- Faults.

-- the block follows the rule of its singleton, which for `x` is that of the private part
abbrev pub IsBlock : LanguageLengths → Block → Type 0
IsBlock T (c, ps) = ((to_ascii_lowercase c ≡ code_x) × IsPrivate ps)
    ⊎ ((e : Extension) × IsExtension T (to_ascii_lowercase c) e × (ps ≡ extension_pieces e))

-- the block's singleton is a letter or digit
abbrev pub HasSingleton : Block → Type 0
HasSingleton (c, _) = is_ascii_alphanumeric c ≡ true

-- no earlier block has this singleton; seen are those of the earlier blocks
abbrev pub IsNew : Text → Block → Type 0
IsNew seen b = list_any (eq_by_cmp nat_cmp (lower_singleton b)) seen ≡ false

-- What is wrong with a block, after blocks with the singletons in seen. The singleton comes first:
-- it is a letter or digit, and new. Then a repeated variant after `t`; and then all else.
pub data TreeBlockFault (T : LanguageLengths) (seen : Text) (b : Block) : Fault → Type 0 where
  no_singleton : is_ascii_alphanumeric b.0 ≡ false → TreeBlockFault T seen b InvalidExtension
  duplicated : HasSingleton b → list_any (eq_by_cmp nat_cmp (lower_singleton b)) seen ≡ true
      → TreeBlockFault T seen b DuplicatedExtension
  repeats_variant : HasSingleton b → IsNew seen b → lower_singleton b ≡ code_t
      → RepeatsVariant T b.1
      → TreeBlockFault T seen b InvalidSubtag
  breaks_rule : HasSingleton b → IsNew seen b
      → ¬ ((lower_singleton b ≡ code_t) × RepeatsVariant T b.1)
      → ¬ (IsBlock T b) → TreeBlockFault T seen b InvalidExtension

-- the blocks before this one are good, and it has the fault
pub data FirstBadBlock (T : LanguageLengths) : Text → List Block → Fault → Type 0 where
  here : {seen : Text} {b : Block} {bs : List Block} {f : Fault} → TreeBlockFault T seen b f
      → FirstBadBlock T seen (b ∷ bs) f
  later : {seen : Text} {b : Block} {bs : List Block} {f : Fault} → HasSingleton b → IsNew seen b
      → IsBlock T b → FirstBadBlock T (lower_singleton b ∷ seen) bs f
      → FirstBadBlock T seen (b ∷ bs) f

-- Why a text is no locale: no language stands first; or the head is no identifier; or the first bad
-- block from the left has the fault.
pub data HasTreeFault (T : LanguageLengths) (t : Text) : Fault → Type 0 where
  no_language : is_word (Language T) (first_piece (pieces t)) ≡ false
      → HasTreeFault T t InvalidLanguage
  no_identifier : IsWord (Language T) (first_piece (pieces t))
      → ¬ (SpellsIdentifier T (head (pieces t))) → HasTreeFault T t InvalidSubtag
  bad_block : {f : Fault} → SpellsIdentifier T (head (pieces t))
      → FirstBadBlock T [] (tail_blocks (pieces t)) f → HasTreeFault T t f

-- The tree that is printed, and what is tested of a value whose text means it.

-- a locale is well-formed if its extensions are
abbrev pub IsTreeWellFormed : Locale → Type 0
IsTreeWellFormed M = AreWellFormed M.extensions

-- the identifier that is spelled of the words that are meant
abbrev pub spelled_identifier : Identifier → SpelledIdentifier
spelled_identifier i =
    record { variants = i.variants; region = i.region; script = i.script; language = i.language }

-- the unicode part that is spelled of the words that are meant
abbrev pub spelled_unicode : Unicode → SpelledUnicode
spelled_unicode u = record { keywords = u.keywords; attributes = u.attributes }

-- the transform part as it is printed: its identifier in lower case, `true` for an empty value
abbrev pub spelled_transform : Transform → SpelledTransform
spelled_transform m =
    record { id = option_map lower_identifier m.id; fields = spelled_fields m.fields }

-- the extension of `t` as it is printed: none if the part is empty
abbrev pub transform_form : Transform → List (ℕ × Extension)
transform_form m = if is_some m.id || nat_lt 0 (length m.fields)
    then (code_t, transform (spelled_transform m)) ∷ [] else []

-- the extension of `u` as it is printed: none if the part is empty
abbrev pub unicode_form : Unicode → List (ℕ × Extension)
unicode_form u = if nat_lt 0 (length u.attributes + length u.keywords)
    then (code_u, unicode (spelled_unicode u)) ∷ [] else []

-- the other extensions as they are printed: those with words
abbrev pub others_form : List Block → List (ℕ × Extension)
others_form os = map (λ (c, ws). (c, other ws)) (filter (λ (_, ws). nat_lt 0 (length ws)) os)

-- the private extension as it is printed: none if it has no words
abbrev pub private_form : List Text → Option Block
private_form [] = None
private_form (w ∷ ws) = Some (code_x, w ∷ ws)

-- the others before the first whose singleton is above `t`
abbrev pub before_t : List Block → List Block
before_t [] = []
before_t ((c, ws) ∷ os) = if nat_le c code_t then (c, ws) ∷ before_t os else []

-- the others from the first whose singleton is above `t` on
abbrev pub after_t : List Block → List Block
after_t [] = []
after_t ((c, ws) ∷ os) = if nat_le c code_t then after_t os else (c, ws) ∷ os

-- the extensions in the order in which they are printed (UTS #35 3.2.1): others up to `t`, `t`,
-- `u`, other others
abbrev pub extensions_form : Extensions → List (ℕ × Extension)
extensions_form e = others_form (before_t e.others)
    ++ (transform_form e.transform ++ (unicode_form e.unicode ++ others_form (after_t e.others)))

-- the written form that a value is printed as
abbrev pub printed : Locale → Written
printed M = record {
  id = spelled_identifier M.id;
  extensions = extensions_form M.extensions;
  private = private_form M.extensions.private;
}

-- the pieces of blocks: each singleton, and what follows it
abbrev pub form_pieces : List (ℕ × Extension) → List Text
form_pieces es = flat_map block_pieces (map extension_block es)

-- the printed text: the canonical syntax of UTS #35 3.2.1; aliases stay
abbrev pub tree_text : Locale → Text
tree_text M = join (spelling (printed M))
