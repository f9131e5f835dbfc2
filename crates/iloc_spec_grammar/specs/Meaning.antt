-- Meaning: what a text stands for. Words are in their normal case; variants and attributes are
-- sets, keywords and fields maps, both as ascending lists; `true` in a value means nothing.
-- Restates the canonical syntax of UTS #35, section 3.2.1. That the first of equal keys stays is
-- what RFC 6067, section 2.1, says after `u`, and the rule of this library after `t`.
use Rattle.std.specs.Prelude.{◌≡◌, ℕ, ◌==◌, flat_map, if◌then◌else◌, not, List, [], ◌∷◌, map}
use Rattle.std.specs.Prelude.{filter, None, option_map, true, false, ◌++◌}
use Rattle.std.specs.Ordering.{nat_cmp}
use Rattle.std.specs.declared.cmp.Ordering.{Ordering}
use Rattle.std.specs.FinMap.{put}
use Rattle.iloc_spec_grammar.specs.Syntax.{Text, LanguageLengths, Block, code_t, code_u, code_x, pieces}
use Rattle.iloc_spec_grammar.specs.Syntax.{lower, upper, title, word_cmp, is_true, Language, PrivateSubtag}
use Rattle.iloc_spec_grammar.specs.Syntax.{is_word, IsWord, Stage, Spelled, Meant, IdentifierOf, UnicodeOf}
use Rattle.iloc_spec_grammar.specs.Syntax.{TransformOf, Fields, identifier_pieces, kept, IsIdentifier}
use Rattle.iloc_spec_grammar.specs.Syntax.{lower_singleton, HasWords, AllDifferent, IsUnicode, IsTransform}
use Rattle.iloc_spec_grammar.specs.Syntax.{IsOther, unicode_pieces, transform_pieces, is_other_singleton}
use Rattle.iloc_spec_grammar.specs.Syntax.{IsAmong, IsNonempty}
use Rattle.std.specs.Char.{is_ascii_alphanumeric, to_ascii_lowercase}
use Rattle.std.specs.List.{AllByRecursion}
pub use Rattle.iloc_spec_grammar.specs.Syntax.{is_one_byte, front, blocks, head, tail_blocks, first_piece}

-- the map of the entries: by ascending keys (UTS #35 3.2.1), and of equal keys the first stays (RFC
-- 6067, 2.1)
abbrev pub map_of : {K X : Type 0} → (K → K → Ordering) → List (K × X) → List (K × X)
map_of cmp [] = []
map_of cmp ((key, x) ∷ es) = put cmp key x (map_of cmp es)

-- the set of the words, ascending: the keys of a map (UTS #35 3.2.1)
abbrev pub set_of : List Text → List Text
set_of ws = map (λ (w, _). w) (map_of word_cmp (map (λ w. (w, w)) ws))

-- Normal forms.

-- words in their normal case, variants as a set (UTS #35 3.2.1)
abbrev pub normal_identifier : IdentifierOf Spelled → IdentifierOf Meant
normal_identifier i = record {
  language = lower i.language;
  script = option_map title i.script;
  region = option_map upper i.region;
  variants = set_of (map lower i.variants);
}

-- the values in lower case, without any `true` (UTS #35 3.2.1 leaves `true` out if it is the whole
-- value)
abbrev pub normal_values : List Text → List Text
normal_values ps = filter (λ w. not (is_true w)) (map lower ps)

-- the map of keys to values, both in lower case (UTS #35 3.2.1)
abbrev pub normal_fields : Fields → Fields
normal_fields fs = map_of word_cmp (map (λ (key, values). (lower key, normal_values values)) fs)

-- what is written after `u`, with attributes as a set and keywords as a map (UTS #35 3.2.1)
abbrev pub normal_unicode : UnicodeOf Spelled → UnicodeOf Meant
normal_unicode u =
    record { attributes = set_of (map lower u.attributes); keywords = normal_fields u.keywords }

-- what is written after `t`, with the identifier normal and fields as a map (UTS #35 3.2.1)
abbrev pub normal_transform : TransformOf Spelled → TransformOf Meant
normal_transform m =
    record { id = option_map normal_identifier m.id; fields = normal_fields m.fields }

-- The parts after `u`, `t` and `x`, and the other extensions by their singletons (UTS #35 3.2).
pub record ExtensionsOf (s : Stage) : Type 0 where
  pub unicode : UnicodeOf s
  pub transform : TransformOf s
  pub private : List Text
  pub others : List Block

-- extensions as they are spelled
abbrev pub SpelledExtensions : Type 0
SpelledExtensions = ExtensionsOf Spelled

-- extensions that are meant
abbrev pub Extensions : Type 0
Extensions = ExtensionsOf Meant

-- an identifier and extensions: what a text means (UTS #35 3.2, `unicode_locale_id`)
pub record Locale : Type 0 where
  pub id : IdentifierOf Meant
  pub extensions : ExtensionsOf Meant

-- words in lower case, of other extensions those that are kept, by ascending singletons (UTS #35
-- 3.2.1)
abbrev pub normal_extensions : ExtensionsOf Spelled → ExtensionsOf Meant
normal_extensions e = record {
  unicode = normal_unicode e.unicode;
  transform = normal_transform e.transform;
  private = map lower e.private;
  others = map_of nat_cmp (map (λ (c, ps). (c, kept ps)) e.others);
}

-- Empty parts, and no extensions.

-- a text without `u` means the empty part
abbrev pub no_unicode : UnicodeOf Meant
no_unicode = record { attributes = []; keywords = [] }

-- a text without `t` means the empty part
abbrev pub no_transform : TransformOf Meant
no_transform = record { id = None; fields = [] }

-- a unicode part, and all else empty
abbrev pub just_unicode : UnicodeOf Meant → ExtensionsOf Meant
just_unicode u = record { unicode = u; transform = no_transform; private = []; others = [] }

-- all parts empty: what a text without blocks means
abbrev pub no_extensions : ExtensionsOf Meant
no_extensions = just_unicode no_unicode

-- an identifier alone
abbrev pub without_extensions : IdentifierOf Meant → Locale
without_extensions i = record { id = i; extensions = no_extensions }

-- Which pieces and texts have a meaning, and which.

-- the pieces are an identifier that means i
pub record IdentifierMeans (T : LanguageLengths) (ps : List Text)
    (i : IdentifierOf Meant) : Type 0 where
  pub written : IdentifierOf Spelled
  pub grammatical : IsIdentifier T written
  pub spelled : ps ≡ identifier_pieces written
  pub means : i ≡ normal_identifier written

-- the pieces after the singleton; none if no block has it
abbrev pub after : ℕ → List Block → List Text
after s bs = flat_map (λ (c, ps). if to_ascii_lowercase c == s then ps else []) bs

-- the blocks of the other extensions, with their singletons in lower case
abbrev pub other_blocks : List Block → List Block
other_blocks bs =
    filter (λ (c, _). is_other_singleton c) (map (λ (c, ps). (to_ascii_lowercase c, ps)) bs)

-- What blocks spell: each has a letter or digit for its singleton, and pieces; no singleton stands
-- twice; and the pieces after `u`, `t`, `x` and the others are those of parts that follow their
-- rules. No block is left out: a letter or digit other than `u`, `t` and `x` is another singleton
-- (UTS #35 3.2, `extensions` and `pu_extensions`).
pub record SpellsExtensions (T : LanguageLengths) (bs : List Block)
    (w : ExtensionsOf Spelled) : Type 0 where
  pub each_block : AllByRecursion (λ (c, ps). (is_ascii_alphanumeric c ≡ true) × IsNonempty ps) bs
  pub different : AllDifferent nat_cmp (map (λ b. lower_singleton b) bs)
  pub unicode : IsUnicode w.unicode × (after code_u bs ≡ unicode_pieces w.unicode)
  pub transform : IsTransform T w.transform × (after code_t bs ≡ transform_pieces w.transform)
  pub private : AllByRecursion (IsWord PrivateSubtag) w.private × (after code_x bs ≡ w.private)
  pub others : AllByRecursion (λ (_, ps). IsOther ps) w.others × (other_blocks bs ≡ w.others)

-- the blocks mean e: they spell extensions whose normal form it is
abbrev pub BlocksMean : LanguageLengths → List Block → ExtensionsOf Meant → Type 0
BlocksMean T bs e = (w : ExtensionsOf Spelled) × SpellsExtensions T bs w × (e ≡ normal_extensions w)

-- the text means M: its head an identifier, and its blocks extensions (UTS #35 3.2,
-- `unicode_locale_id`)
pub record Means (T : LanguageLengths) (t : Text) (M : Locale) : Type 0 where
  pub id : IdentifierMeans T (head (pieces t)) M.id
  pub extensions : BlocksMean T (tail_blocks (pieces t)) M.extensions

-- Faults: why a text is refused, as a property of its head and its blocks. If UTS #35 only says
-- that a text is not well-formed, this library names one of four faults; which one is its own rule.

-- Why a text means nothing. UTS #35 names no faults: these, and which of them is named, follow the
-- Rust crate.
pub data Fault : Type 0 where
  InvalidLanguage InvalidSubtag InvalidExtension DuplicatedExtension : Fault

-- Faults of identifiers.

-- the pieces spell an identifier
abbrev pub SpellsIdentifier : LanguageLengths → List Text → Type 0
SpellsIdentifier T ps = (i : IdentifierOf Spelled) × IsIdentifier T i × (ps ≡ identifier_pieces i)

-- why the pieces are no identifier: no language stands first, or else something after it is wrong
pub data HasIdentifierFault (T : LanguageLengths) (ps : List Text) : Fault → Type 0 where
  not_a_language : is_word (Language T) (first_piece ps) ≡ false
      → HasIdentifierFault T ps InvalidLanguage
  not_an_identifier : IsWord (Language T) (first_piece ps) → ¬ (SpellsIdentifier T ps)
      → HasIdentifierFault T ps InvalidSubtag

-- Faults of blocks.

-- the pieces begin with a language, perhaps a script and a region, and variants, of which one
-- stands twice
abbrev pub RepeatsVariant : LanguageLengths → List Text → Type 0
RepeatsVariant T ps = (i : IdentifierOf Spelled) × (rest : List Text) × HasWords T i
    × (ps ≡ identifier_pieces i ++ rest) × ¬ (AllDifferent word_cmp (map lower i.variants))

-- each block follows the rule of its singleton, and no two singletons are equal
abbrev pub AreBlocks : LanguageLengths → List Block → Type 0
AreBlocks T bs = (w : ExtensionsOf Spelled) × SpellsExtensions T bs w

-- an earlier block has this singleton
abbrev pub IsSecond : List Block → Block → Type 0
IsSecond earlier b = IsAmong nat_cmp (lower_singleton b) (map (λ c. lower_singleton c) earlier)

-- it is a block of `t`, with a variant that stands twice
abbrev pub RepeatsAfterT : LanguageLengths → Block → Type 0
RepeatsAfterT T (c, ps) = (to_ascii_lowercase c ≡ code_t) × RepeatsVariant T ps

-- What is wrong with a block: an earlier one has its singleton; or else a variant is repeated after
-- `t`; or else the block alone breaks the rule of its singleton, or that is no letter or digit.
pub data BlockFault (T : LanguageLengths) (earlier : List Block) (b : Block) : Fault → Type 0 where
  duplicated : IsSecond earlier b → BlockFault T earlier b DuplicatedExtension
  repeats_variant : ¬ (IsSecond earlier b) → RepeatsAfterT T b
      → BlockFault T earlier b InvalidSubtag
  breaks_rule : ¬ (IsSecond earlier b) → ¬ (RepeatsAfterT T b) → ¬ (AreBlocks T (b ∷ []))
      → BlockFault T earlier b InvalidExtension

-- the first bad block from the left has the fault
abbrev pub HasBlockFault : LanguageLengths → List Block → Fault → Type 0
HasBlockFault T bs f = (good : List Block) × (b : Block) × (rest : List Block)
    × (bs ≡ good ++ (b ∷ rest)) × AreBlocks T good × BlockFault T good b f

-- why a text is no locale: its head is no identifier, or a block is bad
pub data HasFault (T : LanguageLengths) (t : Text) : Fault → Type 0 where
  in_head : {f : Fault} → HasIdentifierFault T (head (pieces t)) f → HasFault T t f
  in_block : {f : Fault} → SpellsIdentifier T (head (pieces t))
      → HasBlockFault T (tail_blocks (pieces t)) f → HasFault T t f
