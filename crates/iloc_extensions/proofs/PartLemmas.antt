-- From what a part's reader takes at the front to what the block means.
use Rattle.std.proofs.Common.{◌≡◌, ℕ, true, false, List, refl, Ok, Err, arith}
use Rattle.iloc_spec_grammar.specs.Syntax.{Text, languages, kept, front}
use Rattle.iloc_spec_grammar.specs.Reading.{starts_block}
use Rattle.iloc_spec_grammar.specs.Meaning as faults
use Rattle.iloc_spec_grammar.proofs.RawLaws.{languages_table}
use Rattle.iloc_spec_parts.specs.Fronts.{repeats, unread}
use Rattle.iloc_spec_parts.proofs.FrontLaws.{unicode_agrees, other_agrees}
use Rattle.iloc_spec_parts.proofs.KeptLaws.{other_front-front}
use Rattle.iloc_spec_parts.proofs.TransformLaws.{transform_agrees, repeats_by_block, transform_reader}
use Rattle.iloc_subtags.specs.declared.parse_error.ParseError.{ParseError}
use Rattle.iloc_subtags.specs.declared.parse_error.ParseError.TheVariants.{InvalidLanguage, InvalidSubtag, InvalidExtension, DuplicatedExtension, OutOfMemory}
use Rattle.iloc_subtags.specs.Judging.{RunsOutOnlyIf}
use Rattle.iloc_unicode.specs.declared.unicode.Unicode.{Unicode}
use Rattle.iloc_unicode.specs.UnicodeReads.{UnicodeFills}
use Rattle.iloc_unicode.specs.UnicodeValue as unicode
use Rattle.iloc_transform.specs.declared.transform.Transform.{Transform}
use Rattle.iloc_transform.specs.TransformReading as transform
use Rattle.iloc_other.specs.Reading.{OtherReads, OtherWantsMemory}
use Rattle.iloc_extensions.proofs.PartAnswers.{UnicodeBlock, TransformBlock, OtherBlock}
use Rattle.iloc_extensions.proofs.FaultNames.{unicode_names, transform_names, other_names}

pub unicode_refused : (ps rest more : List Text) (e : ParseError) → UnicodeFills ps rest (Err e) →
    UnicodeBlock ps more (Err e)
unicode_refused ps rest more InvalidLanguage g = grind (arith, unicode_names)
unicode_refused ps rest more InvalidSubtag g = grind (arith, unicode_names)
unicode_refused ps rest more InvalidExtension g =
    λ v h. unicode_agrees.refused ps faults.InvalidExtension v g h
unicode_refused ps rest more DuplicatedExtension g = grind (arith, unicode_names)
unicode_refused ps rest more OutOfMemory g = g

pub unicode_over : (ps rest more : List Text) (u : Unicode) → UnicodeFills ps rest (Ok u) →
    starts_block rest ≡ false → UnicodeBlock ps more (Err InvalidExtension)
unicode_over ps rest more u g s = λ v h. unicode_agrees.left_over ps (unicode.value_of u) v rest g s h

pub unicode_whole : (ps rest : List Text) (u : Unicode) → UnicodeFills ps rest (Ok u) →
    starts_block rest ≡ true → UnicodeBlock ps rest (Ok u)
unicode_whole ps rest u g s = unicode_agrees.whole ps (unicode.value_of u) rest g s

pub transform_refused : (ps rest more : List Text) (e : ParseError) →
    transform.TransformFills ps rest (Err e) → TransformBlock ps more (Err e)
transform_refused ps rest more InvalidLanguage g = grind (arith, transform_names)
transform_refused ps rest more InvalidSubtag (repeats r) = (repeats_by_block languages languages_table ps).1 r
transform_refused ps rest more InvalidExtension (unread n u) = (
  λ r. n ((repeats_by_block languages languages_table ps).0 r),
  λ v h. (transform_agrees languages languages_table).refused ps faults.InvalidExtension v (unread n u) h,
)
transform_refused ps rest more DuplicatedExtension g = grind (arith, transform_names)
transform_refused ps rest more OutOfMemory g = g

pub transform_over : (ps rest more : List Text) (m : Transform) →
    transform.TransformFills ps rest (Ok m) → starts_block rest ≡ false →
    TransformBlock ps more (Err InvalidExtension)
transform_over ps rest more m g s = (
  λ r. (transform_reader languages languages_table).apart ps (transform.value_of m) rest faults.InvalidSubtag
      g (repeats ((repeats_by_block languages languages_table ps).0 r)),
  λ v h. (transform_agrees languages languages_table).left_over ps (transform.value_of m) v rest g s h,
)

pub transform_whole : (ps rest : List Text) (m : Transform) → transform.TransformFills ps rest (Ok m) →
    starts_block rest ≡ true → TransformBlock ps rest (Ok m)
transform_whole ps rest m g s =
    (transform_agrees languages languages_table).whole ps (transform.value_of m) rest g s

pub other_refused : (ext : ℕ) (ps rest more : List Text) (e : ParseError) →
    OtherReads ext ps rest (Err e) → RunsOutOnlyIf {X = ℕ × List Text} (OtherWantsMemory ps) (Err e) →
    OtherBlock ext ps more (Err e)
other_refused ext ps rest more InvalidLanguage g w = grind (arith, other_names)
other_refused ext ps rest more InvalidSubtag g w = grind (arith, other_names)
other_refused ext ps rest more InvalidExtension g w =
    λ h. other_agrees.refused ps faults.InvalidExtension (kept (front ps)) g (h, refl)
other_refused ext ps rest more DuplicatedExtension g w = grind (arith, other_names)
other_refused ext ps rest more OutOfMemory g w = grind (arith, other_front-front)

pub other_over : (ext : ℕ) (ps rest more : List Text) (o : ℕ × List Text) →
    OtherReads ext ps rest (Ok o) → starts_block rest ≡ false → OtherBlock ext ps more (Err InvalidExtension)
other_over ext ps rest more o g s = λ h. other_agrees.left_over ps o.1 (kept (front ps)) rest g.1 s (h, refl)

pub other_whole : (ext : ℕ) (ps rest : List Text) (o : ℕ × List Text) →
    OtherReads ext ps rest (Ok o) → starts_block rest ≡ true → OtherBlock ext ps rest (Ok o)
other_whole ext ps rest o g s =
    let w = other_agrees.whole ps o.1 rest g.1 s in ((λ i. (g.0 i, w.0.1 i)), w.0, w.1)
