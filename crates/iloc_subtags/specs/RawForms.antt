-- What reading a raw form answers.
use Rattle.std.specs.Prelude.{◌≡◌, ◌≢◌, ℕ, Result, Ok, Err}
use Rattle.iloc_spec_grammar.specs.Syntax.{Text, Kind, raw}
use Rattle.iloc_spec_grammar.specs.Values.{IsNormal}
use Rattle.iloc_subtags.specs.declared.parse_error.ParseError.{ParseError}

-- the normal word of which the bytes are the raw form, or the refusal if they are no such word's
abbrev pub ReadsRaw : ℕ → Kind → ParseError → Text → Result Text ParseError → Type 0
ReadsRaw n k refusal bytes (Ok w) = IsNormal k w × (raw n k w ≡ bytes)
ReadsRaw n k refusal bytes (Err e) = (e ≡ refusal) × ((w : Text) → IsNormal k w → raw n k w ≢ bytes)
