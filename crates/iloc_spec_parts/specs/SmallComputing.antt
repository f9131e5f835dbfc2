-- Plain programs: what is read of a small text, or the fault; and whether a text is inline.
use Rattle.std.specs.Prelude.{ℕ, Bool, true, false, ◌&&◌, ◌==◌, nat_le, List, [], ◌∷◌, length, if◌then◌else◌}
use Rattle.std.specs.Prelude.{Option, Some, None, Result, Ok, Err, map, option_map}
use Rattle.std.specs.Char.{is_ascii_alphanumeric, to_ascii_lowercase}
use Rattle.std.specs.List.{list_all}
use Rattle.iloc_spec_grammar.specs.Syntax.{Text, LanguageLengths, Block, code_u, pieces, Language, Variant}
use Rattle.iloc_spec_grammar.specs.Syntax.{UnicodeKey, Attribute, SpelledIdentifier, is_word, lower, title}
use Rattle.iloc_spec_grammar.specs.Syntax.{upper, lower_singleton}
use Rattle.iloc_spec_grammar.specs.Tree.{Extension, unicode, Written}
use Rattle.iloc_spec_grammar.specs.Meaning.{Locale, normal_values, Fault, InvalidLanguage, InvalidSubtag}
use Rattle.iloc_spec_grammar.specs.Meaning.{InvalidExtension, head, tail_blocks, first_piece}
use Rattle.iloc_spec_grammar.specs.Values.{text}
use Rattle.iloc_spec_grammar.specs.Reading.{identifier_of, first_item, written_of}
use Rattle.iloc_spec_grammar.specs.Computing.{holds_if_some, locale_result}
use Rattle.iloc_spec_parts.specs.Small.{SmallIdentifier, SmallLocale, locale_of_small}

-- Identifiers: after the words at the front there is at most one piece, a variant.

-- whether the pieces are variants, one at most
abbrev pub has_small_variants : List Text → Bool
has_small_variants vs = list_all (is_word Variant) vs && nat_le (length vs) 1

-- the normal words of an identifier with at most one variant
abbrev pub small_identifier : SpelledIdentifier → SmallIdentifier
small_identifier i = record {
  language = lower i.language;
  script = option_map title i.script;
  region = option_map upper i.region;
  variant = first_item (map lower i.variants);
}

-- the small identifier that the pieces are, or why they are none
unfoldable pub small_identifier_result : LanguageLengths → List Text → Result SmallIdentifier Fault
small_identifier_result T [] = Err InvalidLanguage
small_identifier_result T (p ∷ ps) = if is_word (Language T) p
    then (if has_small_variants (identifier_of (p ∷ ps)).variants
    then Ok (small_identifier (identifier_of (p ∷ ps))) else Err InvalidSubtag)
    else Err InvalidLanguage

-- The block after the head: a key, and values of which at most one isn't `true`; and no block after
-- it.

-- whether the pieces are a key and its values, of which one at most is not `true`
abbrev pub has_small_keyword : List Text → Bool
has_small_keyword [] = false
has_small_keyword (p ∷ ps) = is_word UnicodeKey p
    && (list_all (is_word Attribute) ps && nat_le (length (normal_values ps)) 1)

-- whether the singleton is `u`, in whatever case
abbrev pub is_u : ℕ → Bool
is_u c = to_ascii_lowercase c == code_u

-- whether the block is one of `u` with such a keyword, and the last
abbrev pub is_small_block : Block → List Block → Bool
is_small_block b [] = is_u b.0 && has_small_keyword b.1
is_small_block b (d ∷ bs) = false

-- the key, and the value that is not `true`, if there is one
abbrev pub keyword_read : List Text → Text × Option Text
keyword_read [] = ([], None)
keyword_read (p ∷ ps) = (lower p, first_item (normal_values ps))

-- the fault of another first block
unfoldable pub block_fault : Block → Fault
block_fault b = if is_ascii_alphanumeric b.0
    then (if lower_singleton b == code_u
    then (if is_word Attribute (first_piece b.1) then InvalidSubtag
    else (if is_word UnicodeKey (first_piece b.1) then InvalidSubtag else InvalidExtension))
    else InvalidSubtag)
    else InvalidExtension

-- the small locale of the identifier and the blocks, or the fault of the first block
unfoldable pub blocks_result : SmallIdentifier → List Block → Result SmallLocale Fault
blocks_result r [] = Ok (record { id = r; keyword = None })
blocks_result r (b ∷ bs) = if is_small_block b bs
    then Ok (record { id = r; keyword = Some (keyword_read b.1) }) else Err (block_fault b)

-- the same, unless the identifier has a fault
unfoldable pub after_identifier : Result SmallIdentifier Fault → List Block
    → Result SmallLocale Fault
after_identifier (Ok r) bs = blocks_result r bs
after_identifier (Err f) bs = Err f

-- the whole text
unfoldable pub small_result : LanguageLengths → Text → Result SmallLocale Fault
small_result T t = after_identifier (small_identifier_result T (head (pieces t)))
    (tail_blocks (pieces t))

-- the normal text of what is read
abbrev pub small_text : Result SmallLocale Fault → Result Text Fault
small_text (Ok r) = Ok (text (locale_of_small r))
small_text (Err f) = Err f

-- Inline texts.

abbrev pub has_few_values : Extension → Bool
has_few_values (unicode u) = list_all (λ (_, ws). nat_le (length (normal_values ws)) 4) u.keywords
has_few_values _ = true

-- few words in the lists of what the text means, and at each keyword as it is written
abbrev pub has_few_words : Written → Locale → Bool
has_few_words w M = let e = M.extensions in
    ((nat_le (length M.id.variants) 4 && nat_le (length e.unicode.attributes) 4)
    && (nat_le (length e.unicode.keywords) 1 && list_all (λ (_, x). has_few_values x) w.extensions))
    && ((holds_if_some (λ i. nat_le (length i.variants) 4) e.transform.id
    && nat_le (length e.transform.fields) 0)
    && (nat_le (length e.private) 4 && nat_le (length e.others) 0))

abbrev pub few_where_read : Written → Result Locale Fault → Bool
few_where_read w (Ok M) = has_few_words w M
few_where_read w (Err f) = false

unfoldable pub is_inline : LanguageLengths → Text → Bool
is_inline T t = few_where_read (written_of (pieces t)) (locale_result T t)
