-- From what a plain text means to what is taken from its pieces.
use Rattle.std.proofs.Common.{◌≡◌, List, [], None, Ok, Err, refl, ◌∙◌, arith}
use Rattle.iloc_spec_grammar.specs.Syntax.{Text, languages, Identifier, pieces, first_piece}
use Rattle.iloc_spec_grammar.specs.Meaning.{IdentifierMeans, not_a_language}
use Rattle.iloc_spec_grammar.specs.Reading.{front_of}
use Rattle.iloc_spec_grammar.proofs.ReadingLaws.{front_of-pieces}
use Rattle.iloc_spec_parts.specs.Small as small
use Rattle.iloc_subtags.specs.declared.parse_error.ParseError.{ParseError}
use Rattle.iloc_subtags.specs.declared.parse_error.ParseError.TheVariants.{InvalidLanguage, InvalidSubtag, InvalidExtension, DuplicatedExtension, OutOfMemory}
use Rattle.iloc_pieces.specs.Front.{HasNoLanguage}
use Rattle.iloc_langid.specs.declared.identifier.LanguageIdentifier.{LanguageIdentifier}
use Rattle.iloc_langid.specs.declared.plain.PlainParts.{PlainParts}
use Rattle.iloc_langid.specs.PlainReads.{IsPlainFront}
use Rattle.iloc_langid.specs.Reads.{value_of, IdentifierReads}
use Rattle.iloc_langid.specs.SmallLocaleReads.{SmallLocaleTextReads}
use Rattle.iloc_normalize.proofs.FrontAnswers.{head_language}
use Rattle.iloc_langid.proofs.FrontLemmas.{plain_of, front_gives, whole_gives}
use Rattle.iloc_langid.proofs.SmallLemmas.{parts_are, parts_give}
use Rattle.iloc_langid.proofs.HeadLemmas.{nothing_more}

-- pieces that mean an identifier in which no variant is written are its other words, and nothing is left
module _ (ps : List Text) (i : Identifier) (m : IdentifierMeans languages ps i)
    (none : m.written.variants ≡ []) where
  front_is : front_of ps ≡ m.written
  front_is = grind (arith, front_of-pieces)

  first_is : first_piece ps ≡ m.written.language
  first_is = grind arith

  pub front_of_meaning : (plain : PlainParts) → plain.language ≡ i.language → plain.script ≡ i.script →
      plain.region ≡ i.region → IsPlainFront ps [] plain
  front_of_meaning plain l s r = grind (arith, first_is, front_is, parts_are)

-- an identifier of these words alone is what the pieces mean
pub plain_means : (ps : List Text) (i : LanguageIdentifier) → IsPlainFront ps [] (plain_of i) →
    i.variants ≡ [] → IdentifierMeans languages ps (value_of i)
plain_means ps i plain none = whole_gives ps [] i (front_gives ps [] [] i plain (none, tt, refl)) refl

-- a text that begins with no language is refused so
pub no_language_read : (t : Text) (e : ParseError) → (e ≡ InvalidLanguage) × HasNoLanguage t →
    IdentifierReads (pieces t) (Err e)
no_language_read t InvalidLanguage (is, h) = not_a_language h
no_language_read t InvalidSubtag (is, h) = absurd (cc)
no_language_read t InvalidExtension (is, h) = absurd (cc)
no_language_read t DuplicatedExtension (is, h) = absurd (cc)
no_language_read t OutOfMemory (is, h) = absurd (cc)

-- and the small locale of them what the text is
pub plain_small : (t : Text) (plain : PlainParts) → IsPlainFront (pieces t) [] plain →
    SmallLocaleTextReads t (Ok (plain.language, plain.script, plain.region, None, None))
plain_small t plain f = nothing_more t (pieces t) [] (plain.language, plain.script, plain.region, None) refl
    (parts_give (pieces t) [] [] plain None f refl refl) refl

pub no_language_small : (t : Text) → HasNoLanguage t →
    SmallLocaleTextReads t (Err InvalidLanguage)
no_language_small t h = small.bad_head (small.no_language (head_language t ∙ h))
