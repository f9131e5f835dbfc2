-- What a text is read as.
use Rattle.std.specs.Prelude.{◌⊎◌, ⊤, ℕ, ◌+◌, ◌≤◌, ◌<◌, length, take}
use Rattle.iloc_spec_grammar.specs.Syntax.{Text, pieces, languages}
use Rattle.iloc_spec_parts.specs.DataLocales.{data_text}
use Rattle.iloc_normalize.specs.Modes.{IsNormalText}
use Rattle.iloc_normalize.specs.Answered.{HasRefusal}
use Rattle.iloc_normalize.specs.declared.Mode.{Mode}
use Rattle.iloc_normalize.specs.declared.Mode.TheVariants.{Data}
use Rattle.iloc_data_parts.specs.PartsReading as parts
use Rattle.iloc_outline.specs.Outlines.{Gives}
use Rattle.iloc_spans.specs.declared.spans.Spans.{Spans}
use Rattle.locale_web.specs.declared.reading.ReadText.{ReadText}
use Rattle.locale_web.specs.declared.reading.ReadText.TheVariants as read_texts
use Rattle.locale_web.specs.declared.normalizing.Placed.{Placed}
use Rattle.locale_web.specs.declared.normalizing.Placed.TheVariants as placed

-- the text has more pieces or bytes than are read at once; a data locale of any length is read
abbrev pub IsPastLimits : Mode → Text → Type 0
IsPastLimits Data t = ¬ ⊤
IsPastLimits mode t = (64 < length (pieces t)) ⊎ (65535 < length t)

-- so it is, or the room is not sixteen bytes larger than the text
abbrev pub IsBeyondRoom : Mode → Text → ℕ → Type 0
IsBeyondRoom mode t room = IsPastLimits mode t ⊎ (room < length t + 16)

-- the text has this normal text, which is at most so many bytes longer
pub record IsNormalWithin (mode : Mode) (t : Text) (more : ℕ) (normal : Text) : Type 0 where
  pub meant : IsNormalText languages mode t normal
  pub few : length normal ≤ length t + more

-- the outline and the spans give the normal text, or the parts are printed as it; or the text is
-- refused, or past the limits
abbrev pub IsReadInto : Mode → Text → Spans → ReadText → Type 0
IsReadInto mode t spans (read_texts.Outlined o) =
    (normal : Text) × IsNormalWithin mode t 0 normal × Gives t o spans normal
IsReadInto mode t spans (read_texts.Parts p) = IsNormalWithin mode t 4 (data_text (parts.value_of p))
IsReadInto mode t spans (read_texts.Refused e) = HasRefusal mode t e
IsReadInto mode t spans read_texts.Beyond = IsPastLimits mode t

-- the first bytes are the normal text; or the text is refused, or beyond what so much room is for
abbrev pub IsPut : Mode → Text → ℕ → Text → Placed → Type 0
IsPut mode t room after (placed.Normal n) =
    (n ≤ length after) × IsNormalText languages mode t (take n after)
IsPut mode t room after (placed.Refused e) = HasRefusal mode t e
IsPut mode t room after placed.Beyond = IsBeyondRoom mode t room
