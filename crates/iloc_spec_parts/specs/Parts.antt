-- Parts read alone: a singleton in either case, and then the front that belongs to it.
-- That the rest of the text is ignored is this project's rule.
use Rattle.std.specs.Prelude.{◌≡◌, ℕ, Bool, true, false, ◌==◌, List, [], ◌∷◌}
use Rattle.std.specs.Char.{to_ascii_lowercase}
use Rattle.iloc_spec_grammar.specs.Syntax.{Text, LanguageLengths, Block, code_t, code_u, code_x, pieces}
use Rattle.iloc_spec_grammar.specs.Syntax.{Fields, Unicode, Transform, is_other_singleton}
use Rattle.iloc_spec_grammar.specs.Meaning.{Fault, InvalidExtension}
use Rattle.iloc_spec_parts.specs.Fronts.{attributes_read, KeywordsRead, KeywordsFault, UnicodeRead}
use Rattle.iloc_spec_parts.specs.Fronts.{UnicodeFault, TransformRead, TransformFault, OtherRead, OtherFault}
use Rattle.iloc_spec_parts.specs.Fronts.{PrivateRead, PrivateFault}

-- whether the first piece is a singleton, which in lower case passes the test
abbrev pub begins_part : (ℕ → Bool) → List Text → Bool
begins_part test [] = false
begins_part test ([] ∷ ps) = false
begins_part test ((b ∷ []) ∷ ps) = test (to_ascii_lowercase b)
begins_part test ((b ∷ c ∷ p) ∷ ps) = false

-- the singleton is read, and the value after it
pub record PartRead {X : Type 0} (test : ℕ → Bool) (R : List Text → X → List Text → Type 0)
    (ps : List Text) (part : ℕ × X) (rest : List Text) : Type 0 where
  pub byte : ℕ
  pub after : List Text
  pub spelled : ps ≡ (byte ∷ []) ∷ after
  pub singleton : part.0 ≡ to_ascii_lowercase byte
  pub passes : test part.0 ≡ true
  pub reads : R after part.1 rest

-- another first piece, or a fault after the singleton
pub data PartFault (test : ℕ → Bool) (F : List Text → Fault → Type 0)
    (ps : List Text) : Fault → Type 0 where
  no_singleton : begins_part test ps ≡ false → PartFault test F ps InvalidExtension
  after_singleton : {b : ℕ} {after : List Text} {f : Fault} → ps ≡ (b ∷ []) ∷ after
      → begins_part test ps ≡ true → F after f → PartFault test F ps f

-- the letter c
abbrev pub is_letter : ℕ → ℕ → Bool
is_letter c d = c == d

-- What a text is read as, part by part, and why it isn't.

-- the text alone is read as these attributes
abbrev pub AttributesText : Text → List Text → Type 0
AttributesText t ws = ws ≡ attributes_read (pieces t)

-- the text alone is read as these keywords, of its front
abbrev pub KeywordsText : Text → Fields → Type 0
KeywordsText t m = (rest : List Text) × KeywordsRead (pieces t) m rest

-- why the text alone is not read as keywords
abbrev pub KeywordsTextFault : Text → Fault → Type 0
KeywordsTextFault t f = KeywordsFault (pieces t) f

-- the text alone, with its `u`, is read as this unicode part
abbrev pub UnicodeText : Text → Unicode → Type 0
UnicodeText t u = (rest : List Text)
    × PartRead (is_letter code_u) UnicodeRead (pieces t) (code_u, u) rest

-- why the text alone is not read as a unicode part
abbrev pub UnicodeTextFault : Text → Fault → Type 0
UnicodeTextFault t f = PartFault (is_letter code_u) UnicodeFault (pieces t) f

-- the text alone, with its `t`, is read as this transform part
abbrev pub TransformText : LanguageLengths → Text → Transform → Type 0
TransformText T t m = (rest : List Text)
    × PartRead (is_letter code_t) (TransformRead T) (pieces t) (code_t, m) rest

-- why the text alone is not read as a transform part
abbrev pub TransformTextFault : LanguageLengths → Text → Fault → Type 0
TransformTextFault T t f = PartFault (is_letter code_t) (TransformFault T) (pieces t) f

-- the text alone, with its singleton, is read as this other extension
abbrev pub OtherText : Text → Block → Type 0
OtherText t o = (rest : List Text) × PartRead is_other_singleton OtherRead (pieces t) o rest

-- why the text alone is not read as another extension
abbrev pub OtherTextFault : Text → Fault → Type 0
OtherTextFault t f = PartFault is_other_singleton OtherFault (pieces t) f

-- the text alone, with its `x`, is read as these private words
abbrev pub PrivateText : Text → List Text → Type 0
PrivateText t ws = (rest : List Text)
    × PartRead (is_letter code_x) PrivateRead (pieces t) (code_x, ws) rest

-- why the text alone is not read as a private part
abbrev pub PrivateTextFault : Text → Fault → Type 0
PrivateTextFault t f = PartFault (is_letter code_x) PrivateFault (pieces t) f
