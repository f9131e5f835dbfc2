-- What the block of each kind is read as, by cases on the whole answer.
use Rattle.std.specs.Prelude.{◌≡◌, ℕ, ◌<◌, List, length, Result, Ok, Err}
use Rattle.iloc_spec_grammar.specs.Syntax.{Text, languages, IsOther, kept, front}
use Rattle.iloc_spec_grammar.specs.Syntax as written
use Rattle.iloc_spec_parts.specs.Fronts.{other_front}
use Rattle.iloc_spec_grammar.specs.Reading.{from_block}
use Rattle.iloc_spec_grammar.specs.ByBlocks.{UnicodeMeans, TransformMeans, OtherMeans}
use Rattle.iloc_spec_grammar.specs.Meaning.{RepeatsVariant}
use Rattle.iloc_subtags.specs.declared.parse_error.ParseError.{ParseError}
use Rattle.iloc_subtags.specs.declared.parse_error.ParseError.TheVariants.{InvalidLanguage, InvalidSubtag, InvalidExtension, DuplicatedExtension, OutOfMemory}
use Rattle.iloc_unicode.specs.declared.unicode.Unicode.{Unicode}
use Rattle.iloc_unicode.specs.UnicodeReads.{UnicodeWantsMemory}
use Rattle.iloc_unicode.specs.UnicodeValue as unicode
use Rattle.iloc_transform.specs.declared.transform.Transform.{Transform}
use Rattle.iloc_transform.specs.TransformReading as transform

-- the pieces up to the next block mean the part, and the rest is left

abbrev pub UnicodeBlock : List Text → List Text → Result Unicode ParseError → Type 0
UnicodeBlock ps rest (Ok u) = UnicodeMeans (front ps) (unicode.value_of u) × (rest ≡ from_block ps)
UnicodeBlock ps rest (Err InvalidExtension) = (v : written.Unicode) → ¬ (UnicodeMeans (front ps) v)
UnicodeBlock ps rest (Err OutOfMemory) = UnicodeWantsMemory ps
UnicodeBlock ps rest (Err InvalidLanguage) = ⊥
UnicodeBlock ps rest (Err InvalidSubtag) = ⊥
UnicodeBlock ps rest (Err DuplicatedExtension) = ⊥

abbrev pub TransformBlock : List Text → List Text → Result Transform ParseError → Type 0
TransformBlock ps rest (Ok m) =
    TransformMeans languages (front ps) (transform.value_of m) × (rest ≡ from_block ps)
TransformBlock ps rest (Err InvalidSubtag) = RepeatsVariant languages (front ps)
TransformBlock ps rest (Err InvalidExtension) = ¬ (RepeatsVariant languages (front ps))
    × ((v : written.Transform) → ¬ (TransformMeans languages (front ps) v))
TransformBlock ps rest (Err OutOfMemory) = transform.TransformWantsMemory ps
TransformBlock ps rest (Err InvalidLanguage) = ⊥
TransformBlock ps rest (Err DuplicatedExtension) = ⊥

abbrev pub OtherBlock : ℕ → List Text → List Text → Result (ℕ × List Text) ParseError → Type 0
OtherBlock ext ps rest (Ok o) =
    (o ≡ (ext, kept (front ps))) × OtherMeans (front ps) o.1 × (rest ≡ from_block ps)
OtherBlock ext ps rest (Err InvalidExtension) = ¬ (IsOther (front ps))
OtherBlock ext ps rest (Err OutOfMemory) = 4 < length (kept (other_front (front ps)))
OtherBlock ext ps rest (Err InvalidLanguage) = ⊥
OtherBlock ext ps rest (Err InvalidSubtag) = ⊥
OtherBlock ext ps rest (Err DuplicatedExtension) = ⊥
