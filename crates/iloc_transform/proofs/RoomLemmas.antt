-- How much room is asked for at most.
use Rattle.std.proofs.Common.{◌≡◌, ◌≤◌, false, not, List, [], length, map, refl, sym, ap, subst, arith, length-append, Option, Err, ℕ}
use Rattle.std.proofs.lemmas.List.{length-map}
use Rattle.std.proofs.lemmas.List.Sums.{length-filter, count_by-le-length}
use Rattle.iloc_spec_grammar.specs.Syntax.{Text, pieces, Attribute, is_word, is_true, lower, languages, SpelledIdentifier, identifier_pieces}
use Rattle.iloc_spec_grammar.specs.Meaning.{normal_values}
use Rattle.iloc_spec_parts.specs.Fronts.{attributes_front, FrontRead, absent, present}
use Rattle.iloc_spec_parts.proofs.KeptLaws.{passing_short}
use Rattle.iloc_memory.specs.Refusals.{RefusedWithin}
use Rattle.iloc_memory.proofs.Within.{within_more}
use Rattle.iloc_subtags.specs.declared.parse_error.ParseError.{ParseError}
use Rattle.iloc_subtags.specs.declared.parse_error.ParseError.TheVariants.{InvalidLanguage, InvalidSubtag, InvalidExtension, DuplicatedExtension, OutOfMemory}
use Rattle.iloc_subtags.specs.Judging.{RunsOutOnlyIf}
use Rattle.iloc_word_list.proofs.RoomLemmas.{words_fit}
use Rattle.iloc_langid.specs.declared.identifier.LanguageIdentifier.{LanguageIdentifier}
use Rattle.iloc_transform.specs.LangReading.{LangRead}

-- what is said of a refusal that is passed on, to a wider bound
pub passed_on : (X Y : Type 0) (Refused : ℕ → Type 0) (m n : ℕ) → m ≤ n → (e : ParseError) →
    RunsOutOnlyIf {X = X} (RefusedWithin Refused m) (Err e) →
    RunsOutOnlyIf {X = Y} (RefusedWithin Refused n) (Err e)
passed_on X Y Refused m n wider InvalidLanguage h = tt
passed_on X Y Refused m n wider InvalidSubtag h = tt
passed_on X Y Refused m n wider InvalidExtension h = tt
passed_on X Y Refused m n wider DuplicatedExtension h = tt
passed_on X Y Refused m n wider OutOfMemory h = within_more Refused m n wider h

-- the subtags of a value

without_true_short : (ps : List Text) → length (normal_values ps) ≤ length ps
without_true_short ps =
    let words = length-filter (λ w. not (is_true w)) (map lower ps) in
    let all = length-map ps lower in
    omega (arith, words, all, count_by-le-length (λ w. not (is_true w)) (map lower ps))

-- they are at most as many as there are pieces
pub values_short : (ps : List Text) → length (normal_values (attributes_front ps)) ≤ length ps
values_short ps =
    omega (arith, without_true_short (attributes_front ps), passing_short (is_word Attribute) ps)

no_empty_word : is_word Attribute [] ≡ false
unfolding is_word
no_empty_word = refl

-- and as the text has bytes
pub values_fit : (t : Text) (ps : List Text) → ps ≡ pieces t →
    length (normal_values (attributes_front ps)) ≤ length t
values_fit t ps is = subst (λ qs. length (normal_values (attributes_front qs)) ≤ length t) (sym is)
    (omega (
      arith,
      without_true_short (attributes_front (pieces t)),
      words_fit (is_word Attribute) no_empty_word t,
    ))

-- the pieces after an identifier

front_shorter : (ps rest : List Text) (o : Option SpelledIdentifier) → FrontRead languages ps o rest →
    length rest ≤ length ps
front_shorter ps rest o (absent none) = omega arith
front_shorter ps rest o (present {i = i} words front) =
    omega (arith, ap length front.spelled, length-append (identifier_pieces i) rest)

pub lang_shorter : (ps rest : List Text) (lang : Option LanguageIdentifier) → LangRead ps lang rest →
    length rest ≤ length ps
lang_shorter ps rest lang l = front_shorter ps rest l.written l.front
