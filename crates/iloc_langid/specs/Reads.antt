-- What the readers of identifiers answer.
use Rattle.std.specs.Prelude.{◌≡◌, ⊤, ℕ, ◌<◌, ◌⊎◌, false, List, [], length, map, None, Result, Ok, Err, IfOk}
use Rattle.iloc_spec_grammar.specs.Syntax.{Text, Language, Variant, is_word, IsWord, lower, word_cmp}
use Rattle.iloc_spec_grammar.specs.Syntax.{languages, SpelledIdentifier, Identifier, AllDifferent}
use Rattle.iloc_spec_grammar.specs.Syntax.{first_piece, pieces, IdentifierOf, Meant}
use Rattle.iloc_spec_grammar.specs.Meaning.{IdentifierMeans, normal_identifier, set_of, HasIdentifierFault}
use Rattle.iloc_spec_grammar.specs.Meaning as faults
use Rattle.iloc_spec_grammar.specs.Reading.{IdentifierFront}
use Rattle.iloc_spec_grammar.specs.Values.{IdentifierTextStep, Leads}
use Rattle.iloc_spec_grammar.specs.Reading.{passing, past, front_of, after_front}
use Rattle.iloc_subtags.specs.declared.parse_error.ParseError.{ParseError}
use Rattle.iloc_subtags.specs.declared.parse_error.ParseError.TheVariants.{InvalidLanguage, InvalidSubtag}
use Rattle.iloc_subtags.specs.declared.parse_error.ParseError.TheVariants.{OutOfMemory}
use Rattle.iloc_subtags.specs.Judging.{Answers, Only}
use Rattle.iloc_langid.specs.declared.identifier.LanguageIdentifier.{LanguageIdentifier}

-- the value of an identifier
abbrev pub value_of : LanguageIdentifier → IdentifierOf Meant
value_of i =
    record { language = i.language; script = i.script; region = i.region; variants = i.variants }

-- nothing but a language: the text is then lent
abbrev pub IsIdentifierLanguageAlone : LanguageIdentifier → Type 0
IsIdentifierLanguageAlone i = (i.script ≡ None) × (i.region ≡ None) × (i.variants ≡ [])

-- the text means this identifier, and no other
abbrev pub IdentifierMeansOnly : Text → Identifier → Type 0
IdentifierMeansOnly t i = IdentifierMeans languages (pieces t) i
    × ((j : Identifier) → IdentifierMeans languages (pieces t) j → j ≡ i)

-- a language stands first, and more than four variants at the front of an identifier's words: only
-- there may a reader allocate
abbrev pub IdentifierWantsMemory : List Text → Type 0
IdentifierWantsMemory ps = IsWord (Language languages) (first_piece ps)
    × (4 < length (front_of ps).variants)

-- what the pieces are read as, as a whole identifier
abbrev pub IdentifierReads : List Text → Result LanguageIdentifier ParseError → Type 0
IdentifierReads ps = Answers (λ i. IdentifierMeans languages ps (value_of i))
    (HasIdentifierFault languages ps) ⊤

-- every text that steps of rewriting lead to means what was read
abbrev pub KeepsThroughSteps : Text → Result LanguageIdentifier ParseError → Type 0
KeepsThroughSteps t r = IfOk r
    (λ i. (n : ℕ) (u : Text) → Leads (IdentifierTextStep languages) n t u
    → IdentifierMeans languages (pieces u) (value_of i))

-- what a longest front is read as, and the pieces that are left after it
pub data FrontReads (ps rest : List Text) : Result LanguageIdentifier ParseError → Type 0 where
  front_given : {i : LanguageIdentifier} (w : SpelledIdentifier) → IdentifierFront languages ps w rest
      → AllDifferent word_cmp (map lower w.variants) → value_of i ≡ normal_identifier w
      → FrontReads ps rest (Ok i)
  front_lacks_language : is_word (Language languages) (first_piece ps) ≡ false
      → FrontReads ps rest (Err InvalidLanguage)
  front_repeats : (w : SpelledIdentifier) {more : List Text}
      → IdentifierFront languages ps w more → ¬ (AllDifferent word_cmp (map lower w.variants))
      → FrontReads ps rest (Err InvalidSubtag)
  front_wants_memory : (w : SpelledIdentifier) {more : List Text}
      → IdentifierFront languages ps w more → 4 < length w.variants
      → FrontReads ps rest (Err OutOfMemory)

-- the same by the reading from the left
abbrev pub FrontComputed : List Text → List Text → Result LanguageIdentifier ParseError → Type 0
FrontComputed ps rest = Answers
    (λ i. IsWord (Language languages) (first_piece ps)
    × AllDifferent word_cmp (map lower (front_of ps).variants)
    × (value_of i ≡ normal_identifier (front_of ps)) × (rest ≡ after_front ps))
    (λ f. Only faults.InvalidLanguage (is_word (Language languages) (first_piece ps) ≡ false) f
    ⊎ Only faults.InvalidSubtag (IsWord (Language languages) (first_piece ps)
    × ¬ (AllDifferent word_cmp (map lower (front_of ps).variants))) f)
    (IdentifierWantsMemory ps)

-- what the variants at the front are read as, and the pieces that are left
abbrev pub VariantsReads : List Text → List Text → Result (List Text) ParseError → Type 0
VariantsReads ps rest = Answers
    (λ vs. (vs ≡ set_of (map lower (passing (is_word Variant) ps)))
    × AllDifferent word_cmp (map lower (passing (is_word Variant) ps))
    × (rest ≡ past (is_word Variant) ps))
    (Only faults.InvalidSubtag
    (¬ (AllDifferent word_cmp (map lower (passing (is_word Variant) ps)))))
    (4 < length (passing (is_word Variant) ps))
