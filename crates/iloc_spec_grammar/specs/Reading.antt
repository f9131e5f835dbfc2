-- Plain programs that read pieces from the left. Two readings of an identifier: `identifier_of`
-- takes all the pieces, and leaves it to the rules whether they are words; `front_of` takes the
-- longest front of words. The other functions named `.._of` take all the pieces of a part in the
-- same way. Each loses nothing, and gives back what follows the rules, so the rules have
-- one reading at most.
use Rattle.std.specs.Prelude.{◌≡◌, ℕ, ◌≤◌, Bool, true, false, cond, ◌==◌, List, [], ◌∷◌, ◌++◌, length, Option}
use Rattle.std.specs.Prelude.{Some, None}
use Rattle.iloc_spec_grammar.specs.Syntax.{Text, LanguageLengths, Block, code_t, code_u, code_x, Script}
use Rattle.iloc_spec_grammar.specs.Syntax.{Region, Variant, TransformKey, is_word, Spelled, IdentifierOf}
use Rattle.iloc_spec_grammar.specs.Syntax.{UnicodeOf, TransformOf, Fields, HasWords}
use Rattle.iloc_spec_grammar.specs.Syntax.{identifier_pieces, lower_singleton, is_one_byte, first_piece, head}
use Rattle.iloc_spec_grammar.specs.Syntax.{tail_blocks}
use Rattle.iloc_spec_grammar.specs.Tree.{Extension, unicode, transform, other, Written}

-- Lists of pieces.

-- the first item, if there is one
abbrev pub first_item : {X : Type 0} → List X → Option X
first_item [] = None
first_item (x ∷ xs) = Some x

-- all pieces but the first
abbrev pub rest_of : List Text → List Text
rest_of [] = []
rest_of (p ∷ ps) = ps

-- the first piece if it passes the test, and what is left
abbrev pub take_first : (Text → Bool) → List Text → Option Text
take_first test [] = None
take_first test (p ∷ ps) = cond (test p) (Some p) None

-- the pieces without the first, if that passes the test
abbrev pub skip_first : (Text → Bool) → List Text → List Text
skip_first test [] = []
skip_first test (p ∷ ps) = cond (test p) ps (p ∷ ps)

-- the longest front whose pieces pass the test, and what is left
abbrev pub passing : (Text → Bool) → List Text → List Text
passing test [] = []
passing test (p ∷ ps) = cond (test p) (p ∷ passing test ps) []

-- the pieces after the longest front that passes the test
abbrev pub past : (Text → Bool) → List Text → List Text
past test [] = []
past test (p ∷ ps) = cond (test p) (past test ps) (p ∷ ps)

-- nothing is left, or its first piece fails the test
abbrev pub EndsBefore : (Text → Bool) → List Text → Type 0
EndsBefore test [] = Unit {0}
EndsBefore test (p ∷ ps) = test p ≡ false

-- Identifiers.

-- the pieces after the language and a script, and after a region too
abbrev pub after_script : List Text → List Text
after_script ps = skip_first (is_word Script) (rest_of ps)

-- what is left after a language, perhaps a script and perhaps a region
abbrev pub after_region : List Text → List Text
after_region ps = skip_first (is_word Region) (after_script ps)

-- the identifier that all the pieces are, if they are one
unfoldable pub identifier_of : List Text → IdentifierOf Spelled
identifier_of ps = record {
  language = first_piece ps;
  script = take_first (is_word Script) (rest_of ps);
  region = take_first (is_word Region) (after_script ps);
  variants = after_region ps;
}

-- the words at the front
unfoldable pub front_of : List Text → IdentifierOf Spelled
front_of ps = record {
  language = first_piece ps;
  script = take_first (is_word Script) (rest_of ps);
  region = take_first (is_word Region) (after_script ps);
  variants = passing (is_word Variant) (after_region ps);
}

-- what is left after them
unfoldable pub after_front : List Text → List Text
after_front ps = past (is_word Variant) (after_region ps)

-- the longest front of a language and the words after it
pub record IdentifierFront (T : LanguageLengths) (ps : List Text) (i : IdentifierOf Spelled)
    (rest : List Text) : Type 0 where
  pub words : HasWords T i
  pub spelled : ps ≡ identifier_pieces i ++ rest
  pub longest : (j : IdentifierOf Spelled) (more : List Text) → HasWords T j
      → ps ≡ identifier_pieces j ++ more
      → length (identifier_pieces j) ≤ length (identifier_pieces i)

-- Fields: each begins at a piece that passes the test for a key.

-- the pieces before the first key
abbrev pub before_key : (Text → Bool) → List Text → List Text
before_key test [] = []
before_key test (p ∷ ps) = cond (test p) [] (p ∷ before_key test ps)

-- each key, as k tells it, with the pieces up to the next one
abbrev pub fields_from : (Text → Bool) → List Text → Fields
fields_from k [] = []
fields_from k (p ∷ ps) = cond (k p) ((p, before_key k ps) ∷ fields_from k ps) (fields_from k ps)

-- Extensions.

-- whether the piece has two bytes, as the keys of `u` and `t` have
abbrev pub is_two : Text → Bool
is_two p = length p == 2

-- after `u`, a piece of two bytes is a key
unfoldable pub unicode_of : List Text → UnicodeOf Spelled
unicode_of ps = record { attributes = before_key is_two ps; keywords = fields_from is_two ps }

-- the identifier after `t`, if any piece stands there (UTS #35 3.2, `tlang`)
abbrev pub optional_of : List Text → Option (IdentifierOf Spelled)
optional_of [] = None
optional_of (p ∷ ps) = Some (identifier_of (p ∷ ps))

-- after `t`, no word of an identifier is a key
unfoldable pub transform_of : List Text → TransformOf Spelled
transform_of ps = record {
  id = optional_of (before_key (is_word TransformKey) ps);
  fields = fields_from (is_word TransformKey) ps;
}

-- the extension that the pieces are read as: of `t`, else of `u`, else another
abbrev pub extension_by : Bool → Bool → List Text → Extension
extension_by true u ps = transform (transform_of ps)
extension_by false true ps = unicode (unicode_of ps)
extension_by false false ps = other ps

-- the extension after the singleton, in lower case
abbrev pub extension_of : ℕ → List Text → Extension
extension_of c ps = extension_by (c == code_t) (c == code_u) ps

-- Whole texts.

-- the extensions of the blocks before the one of `x`, and that one
abbrev pub extensions_in : List Block → List (ℕ × Extension)
extensions_in [] = []
extensions_in (b ∷ bs) = cond (lower_singleton b == code_x) []
    ((b.0, extension_of (lower_singleton b) b.1) ∷ extensions_in bs)

-- the first block of `x`, which is the private part (UTS #35 3.2, `pu_extensions`)
abbrev pub private_in : List Block → Option Block
private_in [] = None
private_in (b ∷ bs) = cond (lower_singleton b == code_x) (Some b) (private_in bs)

-- what the pieces are read as, whether or not it follows the rules (UTS #35 3.2,
-- `unicode_locale_id`)
unfoldable pub written_of : List Text → Written
written_of ps = record {
  id = identifier_of (head ps);
  extensions = extensions_in (tail_blocks ps);
  private = private_in (tail_blocks ps);
}

-- Where blocks begin.

-- from the first piece of one byte on; after the head of the pieces
abbrev pub from_block : List Text → List Text
from_block [] = []
from_block (p ∷ ps) = cond (is_one_byte p) (p ∷ ps) (from_block ps)

abbrev pub after_head : List Text → List Text
after_head ps = from_block (rest_of ps)

-- nothing is left, or a block begins here
abbrev pub starts_block : List Text → Bool
starts_block [] = true
starts_block (p ∷ ps) = is_one_byte p
