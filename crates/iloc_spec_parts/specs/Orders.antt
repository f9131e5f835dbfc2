-- The orders of values: part by part, None before Some, words by their bytes. This project's rule,
-- as in the Rust crate.
use Rattle.std.specs.Prelude.{◌≡◌, ◌↔◌, ℕ, List}
use Rattle.std.specs.Ordering.{nat_cmp, on, then_cmp}
use Rattle.std.specs.Option.{option_cmp}
use Rattle.std.specs.declared.cmp.Ordering.{Ordering}
use Rattle.std.specs.declared.cmp.Ordering.TheVariants.{Equal}
use Rattle.std.specs.Cmp.{IsTotalOrder}
use Rattle.std.specs.Cmp.Lexicographic.{slice_cmp}
use Rattle.iloc_spec_grammar.specs.Syntax.{Text, Block, word_cmp, Identifier, Fields, Unicode, Transform}
use Rattle.iloc_spec_grammar.specs.Meaning.{Locale, Extensions}
use Rattle.iloc_spec_grammar.specs.ShortLists.{short_cmp}

-- A total order, by which only equal values tie.
pub record IsExactOrder {X : Type 0} (R : X → X → Ordering) : Type 0 where
  pub total : IsTotalOrder R
  pub exact : (x y : X) → (R x y ≡ Equal) ↔ (x ≡ y)

-- Pairs, first by the key.
abbrev pub pair_cmp : {X Y : Type 0} → (X → X → Ordering) → (Y → Y → Ordering) → X × Y → X × Y
    → Ordering
pair_cmp R S = then_cmp (on (λ (x, _). x) R) (on (λ (_, y). y) S)

-- Lists of words, as short lists.
abbrev pub words_cmp : List Text → List Text → Ordering
words_cmp = short_cmp word_cmp

-- Identifiers by language, script, region and variants.
abbrev pub identifier_cmp : Identifier → Identifier → Ordering
identifier_cmp = then_cmp (on (λ i. i.language) word_cmp)
    (then_cmp (on (λ i. i.script) (option_cmp word_cmp))
    (then_cmp (on (λ i. i.region) (option_cmp word_cmp)) (on (λ i. i.variants) words_cmp)))

-- Keywords: pairs of a key and its value, as a short list.
abbrev pub keywords_cmp : Fields → Fields → Ordering
keywords_cmp = short_cmp (pair_cmp word_cmp words_cmp)

-- Fields after `t`: pairs of a key and its value, item by item.
abbrev pub fields_cmp : Fields → Fields → Ordering
fields_cmp = slice_cmp (pair_cmp word_cmp words_cmp)

-- Unicode extensions by attributes and keywords.
abbrev pub unicode_cmp : Unicode → Unicode → Ordering
unicode_cmp = then_cmp (on (λ u. u.attributes) words_cmp) (on (λ u. u.keywords) keywords_cmp)

-- Transform extensions by identifier and fields.
abbrev pub transform_cmp : Transform → Transform → Ordering
transform_cmp = then_cmp (on (λ m. m.id) (option_cmp identifier_cmp))
    (on (λ m. m.fields) fields_cmp)

-- Other extensions by singleton and words.
abbrev pub other_cmp : Block → Block → Ordering
other_cmp = pair_cmp nat_cmp words_cmp

-- Extensions by unicode, transform, private words and others.
abbrev pub extensions_cmp : Extensions → Extensions → Ordering
extensions_cmp = then_cmp (on (λ e. e.unicode) unicode_cmp)
    (then_cmp (on (λ e. e.transform) transform_cmp)
    (then_cmp (on (λ e. e.private) words_cmp) (on (λ e. e.others) (slice_cmp other_cmp))))

-- Locales by identifier and extensions.
abbrev pub locale_cmp : Locale → Locale → Ordering
locale_cmp = then_cmp (on (λ M. M.id) identifier_cmp) (on (λ M. M.extensions) extensions_cmp)

-- The kinds of extensions: `t`, `u`, `x`, and the others by their singletons.
pub data ExtensionKind : Type 0 where
  OfTransform OfUnicode OfPrivate : ExtensionKind
  OfOther : ℕ → ExtensionKind

-- Where a kind stands among all.
abbrev pub place_of_kind : ExtensionKind → ℕ × ℕ
place_of_kind OfTransform = (0, 0)
place_of_kind OfUnicode = (1, 0)
place_of_kind OfPrivate = (2, 0)
place_of_kind (OfOther b) = (3, b)

-- Kinds of extensions by where they stand.
abbrev pub kind_cmp : ExtensionKind → ExtensionKind → Ordering
kind_cmp = on place_of_kind (pair_cmp nat_cmp nat_cmp)
