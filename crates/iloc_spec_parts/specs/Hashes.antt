-- Hashes: what a value feeds a hasher: a list of writes, each of some bytes. A word is eight bytes, a
-- list its length and its items, an optional part a mark and the part if it is there, these as std's
-- own `Hash` feeds them. Parts follow one another in the order in which the types keep them.
-- This project's rule.
use Rattle.std.specs.Prelude.{◌≡◌, ◌^◌, ◌<◌, ◌-◌, ◌&&◌, List, [], ◌∷◌, ◌++◌, length, replicate, Bool}
use Rattle.std.specs.Prelude.{nat_le, nat_lt, if◌then◌else◌}
use Rattle.std.specs.List.{list_all}
use Rattle.std.specs.Hash.{HashWrites, u8, slice, option}
use Rattle.std.specs.declared.cmp.Ordering.{Ordering}
use Rattle.std.specs.declared.cmp.Ordering.TheVariants.{Equal}
use Rattle.iloc_spec_grammar.specs.Syntax.{Text, Block, Identifier, Fields, Unicode, Transform}
use Rattle.iloc_spec_grammar.specs.Meaning.{Locale, Extensions}

-- Values that tie in the order feed a hasher alike; and those that feed it alike tie, so nothing of
-- a value is left out. The length of a list is fed in eight bytes: so the second is said of fewer
-- writes than 2 ^ 64, and memory holds no value of more.
pub record HashesByOrder {X : Type 0} (R : X → X → Ordering) (fed : X → HashWrites) : Type 0 where
  pub alike : (x y : X) → R x y ≡ Equal → fed x ≡ fed y
  pub told_apart : (x y : X) → length (fed x) < 2 ^ 64 → fed x ≡ fed y → R x y ≡ Equal

-- The text has at most eight bytes, and no zero among them, as each word has.
abbrev pub is_short_text : Text → Bool
is_short_text w = nat_le (length w) 8 && list_all (λ b. nat_lt 0 b) w

-- A word feeds eight bytes: its text, followed by zeros. So a hasher takes them as one number. (A text
-- that is no word feeds 0xFF and itself, so that any two texts are told apart.)
abbrev pub word_fed : Text → HashWrites
word_fed w = if is_short_text w then (w ++ replicate (8 - length w) 0) ∷ [] else u8 255 ++ (w ∷ [])

-- A list of words feeds its length and its words.
abbrev pub words_fed : List Text → HashWrites
words_fed ws = slice word_fed ws

-- An identifier feeds language, script, region and variants.
abbrev pub identifier_fed : Identifier → HashWrites
identifier_fed i = word_fed i.language ++ option word_fed i.script ++ option word_fed i.region
    ++ words_fed i.variants

-- Keywords, and fields after `t`, feed each key with its value.
abbrev pub fields_fed : Fields → HashWrites
fields_fed fs = slice (λ (key, ws). word_fed key ++ words_fed ws) fs

-- A unicode extension feeds keywords and attributes.
abbrev pub unicode_fed : Unicode → HashWrites
unicode_fed u = fields_fed u.keywords ++ words_fed u.attributes

-- A transform extension feeds identifier and fields.
abbrev pub transform_fed : Transform → HashWrites
transform_fed m = option identifier_fed m.id ++ fields_fed m.fields

-- Another extension feeds singleton and words.
abbrev pub other_fed : Block → HashWrites
other_fed (c, ws) = u8 c ++ words_fed ws

-- Extensions feed unicode, transform, private words and others.
abbrev pub extensions_fed : Extensions → HashWrites
extensions_fed e = unicode_fed e.unicode ++ transform_fed e.transform ++ words_fed e.private
    ++ slice other_fed e.others

-- A locale feeds identifier and extensions.
abbrev pub locale_fed : Locale → HashWrites
locale_fed M = identifier_fed M.id ++ extensions_fed M.extensions
