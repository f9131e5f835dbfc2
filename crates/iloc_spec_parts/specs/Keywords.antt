-- The types of keywords: for each, the values that a list of subtags is read as, and the list that
-- a value is turned into. The keys and their types are those of UTS #35 for the `u` extension
-- (`ca`, `co`, `cu`, `dx`, ..); which of the types are known, and that a list is read as a whole or
-- not at all, is this project's rule, as in the Rust crate.
use Rattle.std.specs.Prelude.{◌≡◌, ℕ, ◌+◌, List, [], ◌∷◌, ◌++◌, map, Option, Some, None, option_map}
use Rattle.std.specs.Prelude.{option_and_then, codes, if◌then◌else◌}
use Rattle.std.specs.List.{AllByRecursion}
use Rattle.std.specs.Ordering.{nat_cmp}
use Rattle.std.specs.Option.{option_cmp}
use Rattle.std.specs.Result.{result_ok}
use Rattle.std.specs.Cmp.Lexicographic.{slice_cmp}
use Rattle.std.specs.FinMap.{find}
use Rattle.iloc_spec_grammar.specs.Syntax.{Text, Script, word, lower, word_cmp, is_true}
pub use Rattle.iloc_spec_parts.specs.SingleValues.{single}
use Rattle.iloc_spec_parts.specs.Subdivisions.{Subdivision, subdivision, subdivision_text}
use Rattle.iloc_spec_parts.specs.Orders.{pair_cmp}
use Rattle.iloc_spec_grammar.specs.Values.{spelled_value}

-- The keywords with a fixed set of values, by the names of their types.
pub data EnumKeyword : Type 0 where
  CalendarAlgorithm CollationType CollationCaseFirst CollationNumericOrdering CurrencyFormatStyle
      EmojiPresentationStyle FirstDay HourCycle LineBreakStyle LineBreakWordHandling
      MeasurementSystem MeasurementUnitOverride SentenceBreakSupressions
      CommonVariantType : EnumKeyword

-- A value: the number of its variant, from 0, and for a Hijri calendar perhaps that of its kind.
abbrev pub EnumValue : Type 0
EnumValue = ℕ × Option ℕ

-- The key of each.
abbrev pub key : EnumKeyword → Text
key CalendarAlgorithm = codes "ca"
key CollationType = codes "co"
key CollationCaseFirst = codes "kf"
key CollationNumericOrdering = codes "kn"
key CurrencyFormatStyle = codes "cf"
key EmojiPresentationStyle = codes "em"
key FirstDay = codes "fw"
key HourCycle = codes "hc"
key LineBreakStyle = codes "lb"
key LineBreakWordHandling = codes "lw"
key MeasurementSystem = codes "ms"
key MeasurementUnitOverride = codes "mu"
key SentenceBreakSupressions = codes "ss"
key CommonVariantType = codes "va"

-- The texts of the variants, in order; that of `islamic` may go on with a kind.
abbrev pub variants : EnumKeyword → List Text
variants CalendarAlgorithm = codes "buddhist" ∷ codes "chinese" ∷ codes "coptic" ∷ codes "dangi"
    ∷ codes "ethioaa" ∷ codes "ethiopic" ∷ codes "gregory" ∷ codes "hebrew" ∷ codes "indian"
    ∷ codes "islamic" ∷ codes "iso8601" ∷ codes "japanese" ∷ codes "persian" ∷ codes "roc" ∷ []
variants CollationType = codes "compat" ∷ codes "dict" ∷ codes "ducet" ∷ codes "emoji" ∷ codes "eor"
    ∷ codes "phonebk" ∷ codes "phonetic" ∷ codes "pinyin" ∷ codes "search" ∷ codes "searchjl"
    ∷ codes "standard" ∷ codes "stroke" ∷ codes "trad" ∷ codes "unihan" ∷ codes "zhuyin" ∷ []
variants CollationCaseFirst = codes "upper" ∷ codes "lower" ∷ codes "false" ∷ []
variants CollationNumericOrdering = codes "true" ∷ codes "false" ∷ []
variants CurrencyFormatStyle = codes "standard" ∷ codes "account" ∷ []
variants EmojiPresentationStyle = codes "emoji" ∷ codes "text" ∷ codes "default" ∷ []
variants FirstDay = codes "sun" ∷ codes "mon" ∷ codes "tue" ∷ codes "wed" ∷ codes "thu"
    ∷ codes "fri" ∷ codes "sat" ∷ []
variants HourCycle = codes "h12" ∷ codes "h23" ∷ codes "h11" ∷ codes "c12" ∷ codes "c24" ∷ []
variants LineBreakStyle = codes "strict" ∷ codes "normal" ∷ codes "loose" ∷ []
variants LineBreakWordHandling = codes "normal" ∷ codes "breakall" ∷ codes "keepall"
    ∷ codes "phrase" ∷ []
variants MeasurementSystem = codes "metric" ∷ codes "ussystem" ∷ codes "uksystem" ∷ []
variants MeasurementUnitOverride = codes "celsius" ∷ codes "kelvin" ∷ codes "fahrenhe" ∷ []
variants SentenceBreakSupressions = codes "none" ∷ codes "standard" ∷ []
variants CommonVariantType = codes "posix" ∷ []

-- The texts of the kinds of Hijri calendars, in order.
abbrev pub hijri_kinds : List Text
hijri_kinds = codes "umalqura" ∷ codes "tbla" ∷ codes "civil" ∷ codes "rgsa" ∷ []

-- The items with their numbers, from n on.
abbrev pub numbered : {X : Type 0} → ℕ → List X → List (X × ℕ)
numbered n [] = []
numbered n (x ∷ xs) = (x, n) ∷ numbered (n + 1) xs

-- The number of `ethioaa` among the calendars.
abbrev pub ethioaa : ℕ
ethioaa = 4

-- The number of `islamic` among the calendars.
abbrev pub islamic : ℕ
islamic = 9

-- The number of `civil` among the kinds.
abbrev pub civil : ℕ
civil = 2

-- What is read beyond the variants, and as what: the kinds after `islamic`, and two old forms.
abbrev pub further_readings : EnumKeyword → List (List Text × EnumValue)
further_readings CalendarAlgorithm = map (λ (w, n). (codes "islamic" ∷ w ∷ [], (islamic, Some n)))
    (numbered 0 hijri_kinds)
    ++ (codes "islamicc" ∷ [], (islamic, Some civil))
    ∷ (codes "ethiopic" ∷ codes "amete" ∷ codes "alem" ∷ [], (ethioaa, None)) ∷ []
further_readings _ = []

-- All that is read, and as what.
abbrev pub readings : EnumKeyword → List (List Text × EnumValue)
readings k = map (λ (w, n). (w ∷ [], (n, None))) (numbered 0 (variants k)) ++ further_readings k

-- A list as it is written: `true` alone is the empty list.
abbrev pub unspelled_value : List Text → List Text
unspelled_value (w ∷ []) = if is_true w then [] else w ∷ []
unspelled_value ws = ws

-- The value that a list is read as, if there is one.
abbrev pub enum_reads : EnumKeyword → List Text → Option EnumValue
enum_reads k ws = find (slice_cmp word_cmp) (spelled_value ws) (readings k)

-- The words of a value's text: of what is read as it, the first.
abbrev pub enum_words : EnumKeyword → EnumValue → Option (List Text)
enum_words k v = find (pair_cmp nat_cmp (option_cmp nat_cmp)) v (map (λ (ws, u). (u, ws)) (readings k))

-- The list that a value is turned into.
abbrev pub enum_gives : EnumKeyword → EnumValue → Option (List Text)
enum_gives k v = option_map unspelled_value (enum_words k v)

-- Each value that some list is read as is read of the list that it gives.
abbrev pub ReadsWhatItGives : EnumKeyword → Type 0
ReadsWhatItGives k = AllByRecursion
    (λ (_, v). option_and_then (enum_reads k) (enum_gives k v) ≡ Some v) (readings k)

-- Keywords whose values are words of a kind. `nu` and `tz` are read as their only subtag
-- (`single`); `cu` stands in `SingleValues` of `iloc_spec_parts`.

-- The list that `nu` or `tz` is turned into.
abbrev pub subtag_gives : Text → List Text
subtag_gives w = unspelled_value (w ∷ [])

-- A word before others, if all are there.
abbrev pub with_first : Option Text → Option (List Text) → Option (List Text)
with_first (Some w) (Some ws) = Some (w ∷ ws)
with_first _ _ = None

-- What `dx` is read as: scripts, perhaps none.
abbrev pub scripts_read : List Text → Option (List Text)
scripts_read [] = Some []
scripts_read (w ∷ ws) = with_first (word Script w) (scripts_read ws)

-- The list that `dx` is turned into.
abbrev pub scripts_give : List Text → List Text
scripts_give ws = map lower ws

-- What `rg` and `sd` are read as: one subdivision.
abbrev pub subdivision_reads : List Text → Option Subdivision
subdivision_reads ws = option_and_then (λ w. result_ok (subdivision w)) (single ws)

-- The list that `rg` or `sd` is turned into.
abbrev pub subdivision_gives : Subdivision → List Text
subdivision_gives s = unspelled_value (subdivision_text s ∷ [])
