-- What the readers of single parts take from the front of the pieces after a singleton, and what
-- they leave. The parts are those of UTS #35 (attributes and keywords after `u`, language and
-- fields after `t`, and so on); that a part may be read alone, and that the rest of the text is
-- then ignored, is this project's rule.
use Rattle.std.specs.Prelude.{◌≡◌, ◌+◌, ◌<◌, Bool, true, false, not, ◌&&◌, ◌||◌, List, [], length, map}
use Rattle.std.specs.Prelude.{if◌then◌else◌, Option, Some, None, nat_lt, ◌∷◌, is_some, Result, Ok, Err}
use Rattle.std.specs.Int.{is_in_range}
use Rattle.std.specs.List.{AllByRecursion, list_any, list_all}
use Rattle.iloc_spec_grammar.specs.Syntax.{Text, LanguageLengths, Language, UnicodeKey, TransformKey}
use Rattle.iloc_spec_grammar.specs.Syntax.{Attribute, is_word, IsWord, lower, word_cmp}
use Rattle.iloc_spec_grammar.specs.Syntax.{SpelledIdentifier, SpelledTransform, Unicode, Transform, Fields}
use Rattle.iloc_spec_grammar.specs.Syntax.{fields_pieces, IsKeyword, IsField, IsOther, IsPrivate}
use Rattle.iloc_spec_grammar.specs.Syntax.{IsIdentifier, kept, first_piece}
use Rattle.iloc_spec_grammar.specs.Meaning.{set_of, normal_fields, normal_transform, Fault, InvalidSubtag}
use Rattle.iloc_spec_grammar.specs.Meaning.{InvalidExtension, RepeatsVariant}
use Rattle.iloc_spec_grammar.specs.Reading.{passing, past, is_two, rest_of, IdentifierFront, front_of}
use Rattle.iloc_spec_grammar.specs.Reading.{after_front, fields_from}
use Rattle.iloc_spec_grammar.specs.Computing.{all_different, is_field, is_other, is_private}

-- the longest front whose pieces pass the test, but nothing if the first piece doesn't pass the
-- first test
abbrev pub passing_from : (Text → Bool) → (Text → Bool) → List Text → List Text
passing_from first test ps = if first (first_piece ps) then passing test ps else []

-- and what is left after it
abbrev pub past_from : (Text → Bool) → (Text → Bool) → List Text → List Text
past_from first test ps = if first (first_piece ps) then past test ps else ps

-- After `u`: attributes, as many as there are.

-- the longest front of attributes
abbrev pub attributes_front : List Text → List Text
attributes_front ps = passing (is_word Attribute) ps

-- what is left after it
abbrev pub after_attributes : List Text → List Text
after_attributes ps = past (is_word Attribute) ps

-- the attributes that are read, as a set
abbrev pub attributes_read : List Text → List Text
attributes_read ps = set_of (map lower (attributes_front ps))

-- Then keywords, which begin with a piece of two bytes and go on with such pieces and with 3 to 8
-- letters or digits.

-- whether the piece goes on with keywords: a key's two bytes, or a value
abbrev pub is_keyword_piece : Text → Bool
is_keyword_piece p = is_two p || is_word Attribute p

-- the longest front of such pieces, if a piece of two bytes begins it
abbrev pub keywords_front : List Text → List Text
keywords_front ps = passing_from is_two is_keyword_piece ps

-- the pieces after the keywords at the front (UTS #35 3.2, `ufield`)
abbrev pub after_keywords : List Text → List Text
after_keywords ps = past_from is_two is_keyword_piece ps

-- the front spells keywords, which mean m
pub record KeywordsRead (ps : List Text) (m : Fields) (rest : List Text) : Type 0 where
  pub written : Fields
  pub keywords : AllByRecursion IsKeyword written
  pub spelled : keywords_front ps ≡ fields_pieces written
  pub means : m ≡ normal_fields written
  pub left : rest ≡ after_keywords ps

-- a piece of two bytes that is no key
abbrev pub is_bad_key : Text → Bool
is_bad_key p = is_two p && not (is_word UnicodeKey p)

-- why no keywords are read from the front: a piece of two bytes there is no key
pub data KeywordsFault (ps : List Text) : Fault → Type 0 where
  bad_key : list_any is_bad_key (keywords_front ps) ≡ true → KeywordsFault ps InvalidExtension

-- attributes and keywords, one after the other, not both absent
pub record UnicodeRead (ps : List Text) (u : Unicode) (rest : List Text) : Type 0 where
  pub attributes_are : u.attributes ≡ attributes_read ps
  pub keywords_are : KeywordsRead (after_attributes ps) u.keywords rest
  pub nonempty : 0 < length (attributes_front ps) + length (keywords_front (after_attributes ps))

-- why nothing is read after `u`: a bad key, or neither attribute nor keyword
pub data UnicodeFault (ps : List Text) : Fault → Type 0 where
  in_keywords : {f : Fault} → KeywordsFault (after_attributes ps) f → UnicodeFault ps f
  both_absent : attributes_front ps ≡ [] → keywords_front (after_attributes ps) ≡ []
      → UnicodeFault ps InvalidExtension

-- After `t`: if the first piece is a language, the longest front of an identifier's words.

-- an identifier and the longest front that is one, or none if no language is first
pub data FrontRead (T : LanguageLengths)
    (ps : List Text) : Option SpelledIdentifier → List Text → Type 0 where
  absent : is_word (Language T) (first_piece ps) ≡ false → FrontRead T ps None ps
  present : {i : SpelledIdentifier} {rest : List Text} → IsIdentifier T i
      → IdentifierFront T ps i rest → FrontRead T ps (Some i) rest

-- Then fields, which begin with a key and go on with keys and with 3 to 8 letters or digits.

-- whether the piece may stand in fields: a key or a value (UTS #35 3.2, `tfield`)
abbrev pub is_field_piece : Text → Bool
is_field_piece p = is_word TransformKey p || is_word Attribute p

-- the pieces of the fields at the front (UTS #35 3.2, `tfield`)
abbrev pub fields_front : List Text → List Text
fields_front ps = passing_from (is_word TransformKey) is_field_piece ps

-- the pieces after these fields
abbrev pub after_fields : List Text → List Text
after_fields ps = past_from (is_word TransformKey) is_field_piece ps

-- a key is first, and a value is after it: one field at least
abbrev pub BeginsField : List Text → Type 0
BeginsField ps = IsWord TransformKey (first_piece ps) × IsWord Attribute (first_piece (rest_of ps))

-- an identifier and fields, one after the other, not both absent
pub record TransformRead (T : LanguageLengths) (ps : List Text) (m : Transform)
    (rest : List Text) : Type 0 where
  pub written : SpelledTransform
  pub middle : List Text
  pub id : FrontRead T ps written.id middle
  pub fields : AllByRecursion IsField written.fields
  pub spelled : fields_front middle ≡ fields_pieces written.fields
  pub nonempty : written.id ≡ None → 0 < length written.fields
  pub means : m ≡ normal_transform written
  pub left : rest ≡ after_fields middle

-- a repeated variant, or else a key without a value or nothing there
pub data TransformFault (T : LanguageLengths) (ps : List Text) : Fault → Type 0 where
  repeats : RepeatsVariant T ps → TransformFault T ps InvalidSubtag
  unread : ¬ (RepeatsVariant T ps)
      → ((m : Transform) (rest : List Text) → ¬ (TransformRead T ps m rest))
      → TransformFault T ps InvalidExtension

-- After another singleton: the longest front of pieces of 2 to 8 bytes, of which a word is kept.

-- whether the piece has the length of those after another singleton: 2 to 8 bytes
abbrev pub has_other_length : Text → Bool
has_other_length p = is_in_range 2 8 (length p)

-- the longest front of such pieces
abbrev pub other_front : List Text → List Text
other_front ps = passing has_other_length ps

-- after another singleton ws are read from the front, and rest is left (UTS #35 3.2,
-- `other_extensions`)
pub record OtherRead (ps ws rest : List Text) : Type 0 where
  pub follows : IsOther (other_front ps)
  pub means : ws ≡ kept (other_front ps)
  pub left : rest ≡ past has_other_length ps

-- why nothing is read after another singleton: its front has no word
pub data OtherFault (ps : List Text) : Fault → Type 0 where
  no_word : ¬ (IsOther (other_front ps)) → OtherFault ps InvalidExtension

-- After `x`: all the rest, which is private words.

-- after `x` all pieces are read, and nothing is left (UTS #35 3.2, `pu_extensions`)
pub record PrivateRead (ps ws rest : List Text) : Type 0 where
  pub follows : IsPrivate ps
  pub means : ws ≡ map lower ps
  pub left : rest ≡ []

-- why nothing is read after `x`: the pieces are no private part
pub data PrivateFault (ps : List Text) : Fault → Type 0 where
  not_private : ¬ (IsPrivate ps) → PrivateFault ps InvalidExtension

-- A plain program for each reader of a front: the value and what is left, or the fault.

-- the keywords before the first one whose key is none: a reader keeps these, and no more
abbrev pub before_bad_key : Fields → Fields
before_bad_key [] = []
before_bad_key ((k, ws) ∷ fs) = if is_word UnicodeKey k then (k, ws) ∷ before_bad_key fs else []

-- the keywords that a reader keeps before a fault, or before the end
abbrev pub keywords_kept : List Text → Fields
keywords_kept ps = before_bad_key (fields_from is_two (keywords_front ps))

-- the fields at the front, as they are spelled
abbrev pub fields_at : List Text → Fields
fields_at ps = fields_from (is_word TransformKey) (fields_front ps)

abbrev pub keywords_result : List Text → Result (Fields × List Text) Fault
keywords_result ps = if list_any is_bad_key (keywords_front ps) then Err InvalidExtension
    else Ok (normal_fields (fields_from is_two (keywords_front ps)), after_keywords ps)

-- the attributes of ps and the keywords after them
abbrev pub attributes_and : List Text → Result (Fields × List Text) Fault
    → Result (Unicode × List Text) Fault
attributes_and ps (Err f) = Err f
attributes_and ps (Ok r) = if nat_lt 0
    (length (attributes_front ps) + length (keywords_front (after_attributes ps)))
    then Ok (record { attributes = attributes_read ps; keywords = r.0 }, r.1)
    else Err InvalidExtension

unfoldable pub unicode_result : List Text → Result (Unicode × List Text) Fault
unicode_result ps = attributes_and ps (keywords_result (after_attributes ps))

-- the fields after an identifier, or after none
abbrev pub fields_result : Option SpelledIdentifier → List Text
    → Result (Transform × List Text) Fault
fields_result o ps = if list_all is_field (fields_at ps)
    && (is_some o || nat_lt 0 (length (fields_at ps)))
    then Ok (normal_transform (record { id = o; fields = fields_at ps }), after_fields ps)
    else Err InvalidExtension

unfoldable pub transform_result : LanguageLengths → List Text → Result (Transform × List Text) Fault
transform_result T ps = if is_word (Language T) (first_piece ps)
    then (if all_different word_cmp (map lower (front_of ps).variants)
    then fields_result (Some (front_of ps)) (after_front ps) else Err InvalidSubtag)
    else fields_result None ps

unfoldable pub other_result : List Text → Result (List Text × List Text) Fault
other_result ps = if is_other (other_front ps)
    then Ok (kept (other_front ps), past has_other_length ps) else Err InvalidExtension

unfoldable pub private_result : List Text → Result (List Text × List Text) Fault
private_result ps = if is_private ps then Ok (map lower ps, []) else Err InvalidExtension
