-- What a caller finds after a call on a handle, by its status.
use Rattle.std.specs.Prelude.{◌≡◌, ◌≢◌, ◌⊎◌, ℕ, Option, None}
use Rattle.iloc_spec_grammar.specs.Meaning as meaning
use Rattle.iloc_spec_grammar.specs.Meaning.{Fault}
use Rattle.iloc_locale.specs.LocaleReading.{unknown_locale}
use Rattle.iloc_locale.specs.declared.locale.Locale.{Locale}
use Rattle.iloc_calls.specs.declared.status.Status.{Status}
use Rattle.iloc_calls.specs.declared.status.Status.TheVariants.{Done, InvalidLanguage, InvalidSubtag}
use Rattle.iloc_calls.specs.declared.status.Status.TheVariants.{InvalidExtension, DuplicatedExtension}
use Rattle.iloc_calls.specs.declared.status.Status.TheVariants.{OutOfMemory, BufferTooSmall, UnknownNumber}
use Rattle.iloc_calls.specs.declared.status.Status.TheVariants.{NotFound}
use Rattle.iloc_calls.specs.Numbers.{EndsAs}
use Rattle.iloc_handles.specs.Held.{IsTight, held_locale}
use Rattle.iloc_handles.specs.declared.lent.Lent.{Lent}

-- a relation of the locale before, the locale after, and the status
abbrev pub Changing : Type 1
Changing = meaning.Locale → meaning.Locale → Status → Type 0

-- a handle without a box is changed to another locale than `und`, so that a box is wanted, and has
-- none afterwards
abbrev pub LacksBox : Changing → Option Locale → Option Locale → Type 0
LacksBox P None None = (M : meaning.Locale) × (s : Status) × P unknown_locale M s
    × (M ≢ unknown_locale)
LacksBox P _ _ = ⊥

-- the locale of the handle is changed so; or a box was wanted, and memory for it was refused
abbrev pub Changes : Changing → Option Locale → Option Locale → Status → Type 0
Changes P before after status =
    P (held_locale before) (held_locale after) status
    ⊎ ((status ≡ OutOfMemory) × LacksBox P before after)

-- The two kinds of calls.

-- a call that reads: the loan is as before, and what is answered is so of its locale
abbrev pub IsAsked : Lent → Lent → (meaning.Locale → Type 0) → Type 0
IsAsked before after IsAnswered = (after ≡ before) × IsAnswered (held_locale before.value)

-- a call that changes: the locale is changed so, with the number of that status, and a handle that
-- stands for `und` afterwards has no box
abbrev pub IsChanged : Changing → Option Locale → Option Locale → ℕ → Type 0
IsChanged P before after number = EndsAs (Changes P before after) number × IsTight after

-- Setting.

-- why a text is refused: it has the fault, or memory was wanted to parse it
abbrev pub RefusedFor : (Fault → Type 0) → Type 0 → Status → Type 0
RefusedFor HasFault Wants Done = ⊥
RefusedFor HasFault Wants InvalidLanguage = HasFault meaning.InvalidLanguage
RefusedFor HasFault Wants InvalidSubtag = HasFault meaning.InvalidSubtag
RefusedFor HasFault Wants InvalidExtension = HasFault meaning.InvalidExtension
RefusedFor HasFault Wants DuplicatedExtension = HasFault meaning.DuplicatedExtension
RefusedFor HasFault Wants OutOfMemory = Wants
RefusedFor HasFault Wants BufferTooSmall = ⊥
RefusedFor HasFault Wants UnknownNumber = ⊥
RefusedFor HasFault Wants NotFound = ⊥

-- the locale becomes this; where the text is refused, it stays
abbrev pub Sets : (meaning.Locale → meaning.Locale → Type 0) → (Fault → Type 0) → Type 0 → Changing
Sets Becomes HasFault Wants before after Done = Becomes before after
Sets Becomes HasFault Wants before after status = RefusedFor HasFault Wants status
    × (after ≡ before)

-- the locale loses a part that it has; where it has none such, it stays
abbrev pub Removes : (meaning.Locale → Type 0) → (meaning.Locale → meaning.Locale) → Changing
Removes Has without before after Done = Has before × (after ≡ without before)
Removes Has without before after NotFound = ¬ (Has before) × (after ≡ before)
Removes Has without before after _ = ⊥
