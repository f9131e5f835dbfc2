-- The parts of a text that stay together when it is brought into order, and how each is printed.
use Rattle.std.specs.Prelude.{ℕ, List, [], ◌∷◌, ◌++◌, ◌==◌, map, flat_map, Option, Some, None, option_to_list}
use Rattle.std.specs.Prelude.{if◌then◌else◌, slice_index}
use Rattle.std.specs.Char.{to_ascii_lowercase}
use Rattle.std.specs.Ordering.{nat_cmp}
use Rattle.iloc_spec_grammar.specs.Syntax.{Text, Field, Block, code_t, code_u, code_x, lower, kept}
use Rattle.iloc_spec_grammar.specs.Syntax.{is_other_singleton, lower_singleton, Stage, IdentifierOf}
use Rattle.iloc_spec_grammar.specs.Syntax.{SpelledIdentifier, SpelledUnicode, SpelledTransform}
use Rattle.iloc_spec_grammar.specs.Meaning.{map_of, normal_values}
use Rattle.iloc_spec_grammar.specs.Values.{spelled_value}
use Rattle.iloc_spec_grammar.specs.Reading.{unicode_of, transform_of}
use Rattle.iloc_pieces.specs.Words.{word_number}
use Rattle.iloc_spans.specs.Inserting.{ordered_by}
use Rattle.iloc_spans.specs.declared.span.Role.{Role}
use Rattle.iloc_spans.specs.declared.span.Role.TheVariants.{Variant, Singleton, Attribute, Keyword}
use Rattle.iloc_spans.specs.declared.span.Role.TheVariants.{Field as FieldRole}

-- a part: what it is, the number by which it is ordered, and its pieces
pub record Part : Type 0 where
  pub role : Role
  pub word : ℕ
  pub pieces : List Text

-- a part of one subtag
abbrev pub word_part : Role → Text → Part
word_part r w = record { role = r; word = word_number w; pieces = w ∷ [] }

-- a key and its values
abbrev pub field_part : Role → Field → Part
field_part r (key, values) = record { role = r; word = word_number key; pieces = key ∷ values }

-- the number of a singleton in lower case: `x` comes last
abbrev pub rank : ℕ → ℕ
rank c = if c == code_x then 255 else c

-- a singleton, and pieces that stay behind it
abbrev pub singleton_part : ℕ → List Text → Part
singleton_part c ps =
    record { role = Singleton; word = rank (to_ascii_lowercase c); pieces = (c ∷ []) ∷ ps }

-- parts in the order of their numbers
abbrev pub in_order : List Part → List Part
in_order ps = ordered_by (λ (p : Part). p.word) ps

-- Blocks.

-- attributes and keywords, each in order
abbrev pub unicode_parts : SpelledUnicode → List Part
unicode_parts u = in_order (map (word_part Attribute) u.attributes)
    ++ in_order (map (field_part Keyword) u.keywords)

-- language, script and region of an identifier
abbrev pub front_pieces : {s : Stage} → IdentifierOf s → List Text
front_pieces i = i.language ∷ (option_to_list i.script ++ option_to_list i.region)

-- variants in order
abbrev pub variant_parts : List Text → List Part
variant_parts vs = in_order (map (word_part Variant) vs)

-- the front of an identifier that may be absent, and its variants
abbrev pub optional_front : Option SpelledIdentifier → List Text
optional_front None = []
optional_front (Some i) = front_pieces i

abbrev pub optional_variants : Option SpelledIdentifier → List Text
optional_variants None = []
optional_variants (Some i) = i.variants

-- variants and fields, each in order; the front of the identifier stays behind the singleton
abbrev pub transform_parts : SpelledTransform → List Part
transform_parts m = variant_parts (optional_variants m.id)
    ++ in_order (map (field_part FieldRole) m.fields)

-- the parts of a block, its singleton first
abbrev pub block_parts : Block → List Part
block_parts (c, ps) =
    if to_ascii_lowercase c == code_t
    then singleton_part c (optional_front (transform_of ps).id) ∷ transform_parts (transform_of ps)
    else if to_ascii_lowercase c == code_u
    then singleton_part c [] ∷ unicode_parts (unicode_of ps)
    else singleton_part c ps ∷ []

-- a block by its rank
abbrev pub ranked : Block → ℕ × List Part
ranked b = (rank (lower_singleton b), block_parts b)

-- the parts of blocks, by the ranks of these
abbrev pub blocks_parts : List Block → List Part
blocks_parts bs = flat_map (λ (_, ps). ps) (map_of nat_cmp (map ranked bs))

-- Printing.

-- a key and values without `true`, as spell has them
abbrev pub printed_field : (List Text → List Text) → List Text → List Text
printed_field spell [] = []
printed_field spell (key ∷ values) = lower key ∷ spell (normal_values values)

-- a singleton and what follows it: of another extension the subtags that are kept
abbrev pub printed_singleton : List Text → List Text
printed_singleton [] = []
printed_singleton (s ∷ ps) = lower s
    ∷ (if is_other_singleton (to_ascii_lowercase (slice_index s 0)) then kept ps else map lower ps)

-- the pieces that are printed for pieces of a role
abbrev pub printed_by : Role → List Text → List Text
printed_by Keyword ps = printed_field (λ vs. vs) ps
printed_by FieldRole ps = printed_field spelled_value ps
printed_by Singleton ps = printed_singleton ps
printed_by _ ps = map lower ps

-- the pieces that are printed for a part
abbrev pub printed_part : Part → List Text
printed_part p = printed_by p.role p.pieces
