-- What a caller finds after each call, by its status.
use Rattle.std.specs.Prelude.{◌≡◌, ◌⊎◌, ℕ, ℤ, pos, negsuc, ◌≤◌, ◌<◌, ◌++◌, length, drop, Option, Some, None}
use Rattle.std.specs.Ordering.{nat_cmp}
use Rattle.std.specs.Cmp.Lexicographic.{slice_cmp}
use Rattle.std.specs.declared.cmp.Ordering.{Ordering}
use Rattle.std.specs.declared.cmp.Ordering.TheVariants.{Less, Equal, Greater}
use Rattle.iloc_spec_grammar.specs.Syntax.{Text, pieces, languages, Identifier}
use Rattle.iloc_spec_grammar.specs.Meaning as meaning
use Rattle.iloc_spec_grammar.specs.Meaning.{IdentifierMeans, Means, without_extensions}
use Rattle.iloc_spec_parts.specs.DataLocales.{DataLocale, DataMeans, locale_of_data}
use Rattle.iloc_writeable.specs.Hints.{saturated}
use Rattle.iloc_langid.specs.Reads as langid_reads
use Rattle.iloc_locale.specs.LocaleReading as locale
use Rattle.iloc_subtags.specs.declared.parse_error.ParseError.{ParseError}
use Rattle.iloc_subtags.specs.declared.parse_error.ParseError.TheVariants as refusals
use Rattle.iloc_normalize.specs.NormalTexts.{IsNotNormal}
use Rattle.iloc_normalize.specs.Modes.{IsNormalText, IsFaulty}
use Rattle.iloc_normalize.specs.declared.Mode.{Mode}
use Rattle.iloc_normalize.specs.declared.Mode.TheVariants.{Langid, Locale, Data}
use Rattle.iloc_calls.specs.Numbers.{ByMode, EndsAs}
use Rattle.iloc_calls.specs.declared.status.Status.{Status}
use Rattle.iloc_calls.specs.declared.status.Status.TheVariants.{Done, InvalidLanguage, InvalidSubtag}
use Rattle.iloc_calls.specs.declared.status.Status.TheVariants.{InvalidExtension, DuplicatedExtension}
use Rattle.iloc_calls.specs.declared.status.Status.TheVariants.{OutOfMemory, BufferTooSmall, UnknownNumber}
use Rattle.iloc_calls.specs.declared.status.Status.TheVariants.{NotFound}

-- Texts, by the mode.

-- when memory may run out to read the text: never if it is short
abbrev pub CallWantsMemory : Mode → Text → Type 0
CallWantsMemory Langid t = langid_reads.IdentifierWantsMemory (pieces t)
CallWantsMemory Locale t = locale.LocaleWantsMemory t
CallWantsMemory Data t = ⊥

-- the locale of what the text means: an identifier alone, a locale, or what prints a data locale's
-- parts
abbrev pub MeansLocale : Mode → Text → meaning.Locale → Type 0
MeansLocale Langid t M = (i : Identifier) × IdentifierMeans languages (pieces t) i
    × (M ≡ without_extensions i)
MeansLocale Locale t M = Means languages t M
MeansLocale Data t M = (d : DataLocale) × DataMeans languages t d × (M ≡ locale_of_data d)

-- the status of a text: it means something, or has the fault, or memory ran out
abbrev pub JudgedAs : Mode → Text → Status → Type 0
JudgedAs mode t Done = (normal : Text) × IsNormalText languages mode t normal
JudgedAs mode t InvalidLanguage = IsFaulty languages mode t meaning.InvalidLanguage
JudgedAs mode t InvalidSubtag = IsFaulty languages mode t meaning.InvalidSubtag
JudgedAs mode t InvalidExtension = IsFaulty languages mode t meaning.InvalidExtension
JudgedAs mode t DuplicatedExtension = IsFaulty languages mode t meaning.DuplicatedExtension
JudgedAs mode t OutOfMemory = CallWantsMemory mode t
JudgedAs mode t BufferTooSmall = ⊥
JudgedAs mode t UnknownNumber = ⊥
JudgedAs mode t NotFound = ⊥

-- What is written for a caller.

-- the bytes are at the front of the buffer if they fit; else it is as before, and their number says
-- how large it must be
abbrev pub HandsOut : Text → Text → Text → ℕ → Status → Type 0
HandsOut bytes before after needed Done = (length bytes ≤ length before) × (needed ≡ length bytes)
    × (after ≡ bytes ++ drop (length bytes) before)
HandsOut bytes before after needed BufferTooSmall = (length before < length bytes)
    × (needed ≡ saturated (length bytes)) × (after ≡ before)
HandsOut bytes before after needed _ = ⊥

-- the text is handed out, if there is one; else nothing is
abbrev pub Tells : Option Text → Text → Text → ℕ → Status → Type 0
Tells (Some t) before after needed status = HandsOut t before after needed status
Tells None before after needed NotFound = (needed ≡ 0) × (after ≡ before)
Tells None before after needed _ = ⊥

-- the normal text is handed out; if there is none, nothing is
abbrev pub NormalizesTo : Mode → Text → Text → Text → ℕ → Status → Type 0
NormalizesTo mode t before after needed Done = (normal : Text)
    × IsNormalText languages mode t normal
    × HandsOut normal before after needed Done
NormalizesTo mode t before after needed BufferTooSmall =
    (normal : Text) × IsNormalText languages mode t normal
    × HandsOut normal before after needed BufferTooSmall
NormalizesTo mode t before after needed status =
    JudgedAs mode t status × (needed ≡ 0) × (after ≡ before)

-- the same by the number of a mode, which says the number of the status; of any other number,
-- nothing is handed out
abbrev pub Normalizes : ℕ → Text → Text → Text → ℕ → ℕ → Type 0
Normalizes mode t before after needed result =
    ByMode mode (λ m. EndsAs (NormalizesTo m t before after needed))
    ((needed ≡ 0) × (after ≡ before)) result

-- how much longer than a text its normal text may be: a data locale is printed with its
-- subdivision's region
abbrev pub growth : Mode → ℕ
growth Langid = 0
growth Locale = 0
growth Data = 4

abbrev pub order_number : Ordering → ℤ
order_number Less = negsuc 0
order_number Equal = pos 0
order_number Greater = pos 1

-- the byte order of the normal text against other bytes is written, and else nothing is
abbrev pub ComparesTo : Mode → Text → Text → ℤ → ℤ → Status → Type 0
ComparesTo mode t other before after Done = (normal : Text) × IsNormalText languages mode t normal
    × (after ≡ order_number (slice_cmp nat_cmp normal other))
ComparesTo mode t other before after status = JudgedAs mode t status × (after ≡ before)

-- the order of two normal texts is written; or memory ran out for the second, which is not the
-- bytes
abbrev pub WritesOrder : Text → Text → Text → ℤ → ℤ → Status → Type 0
WritesOrder a b bytes before after Done = after ≡ order_number (slice_cmp nat_cmp a b)
WritesOrder a b bytes before after OutOfMemory = ¬ (bytes ≡ b) × (after ≡ before)
WritesOrder a b bytes before after _ = ⊥

-- the byte order of both normal texts is written; a refusal is of the first text, or else of the
-- other
abbrev pub OrdersTo : Mode → Text → Text → ℤ → ℤ → Status → Type 0
OrdersTo mode t other before after Done = (a b : Text) × IsNormalText languages mode t a
    × IsNormalText languages mode other b × (after ≡ order_number (slice_cmp nat_cmp a b))
OrdersTo mode t other before after OutOfMemory =
    (CallWantsMemory mode t ⊎ (CallWantsMemory mode other ⊎ IsNotNormal mode other))
    × (after ≡ before)
OrdersTo mode t other before after status =
    (JudgedAs mode t status
    ⊎ ((normal : Text) × IsNormalText languages mode t normal × JudgedAs mode other status))
    × (after ≡ before)

-- both texts mean the same
abbrev pub MeanSame : Mode → Text → Text → Type 0
MeanSame Langid t u = (i : Identifier) × IdentifierMeans languages (pieces t) i
    × IdentifierMeans languages (pieces u) i
MeanSame Locale t u = (M : meaning.Locale) × Means languages t M × Means languages u M
MeanSame Data t u = (d : DataLocale) × DataMeans languages t d × DataMeans languages u d

-- when telling whether they do may allocate: to parse either; a data locale is printed to be
-- compared
abbrev pub TellingWantsMemory : Mode → Text → Text → Type 0
TellingWantsMemory Langid t u = CallWantsMemory Langid t ⊎ CallWantsMemory Langid u
TellingWantsMemory Locale t u = CallWantsMemory Locale t ⊎ CallWantsMemory Locale u
TellingWantsMemory Data t u = IsNotNormal Data u

-- what a refusal answers: that it means something else, unless memory ran out to parse it
abbrev pub RefusedAnswers : ParseError → ℕ → ℕ → Status → Type 0
RefusedAnswers refusal before after status =
    ((refusal ≡ refusals.OutOfMemory) × (status ≡ OutOfMemory) × (after ≡ before))
    ⊎ (¬ (refusal ≡ refusals.OutOfMemory) × (status ≡ Done) × (after ≡ 0))

-- 1 is written if the other bytes mean what the text means, and else 0
abbrev pub SaysSame : Mode → Text → Text → ℕ → ℕ → Status → Type 0
SaysSame mode t other before after Done = ((normal : Text) × IsNormalText languages mode t normal)
    × (((after ≡ 1) × MeanSame mode t other) ⊎ ((after ≡ 0) × ¬ (MeanSame mode t other)))
SaysSame mode t other before after OutOfMemory = TellingWantsMemory mode t other × (after ≡ before)
SaysSame mode t other before after status = JudgedAs mode t status × (after ≡ before)
