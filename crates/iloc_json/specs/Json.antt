-- What is returned when texts are written as JSON strings, and parsed from them. This library's
-- rule.
use Rattle.std.specs.Prelude.{◌≡◌, Option, Some, None, Result, Ok, Err, MatchResult, ℕ, ⊤, length}
use Rattle.iloc_spec_grammar.specs.Syntax.{Text}
use Rattle.iloc_subtags.specs.declared.parse_error.ParseError.{ParseError}
use Rattle.iloc_json.specs.declared.errors.JsonError.{JsonError}
use Rattle.iloc_json.specs.declared.errors.JsonError.TheVariants.{NotText, OutOfMemory}
use Rattle.iloc_json.specs.Errors.{json_error}
use Rattle.iloc_memory.specs.Refusals.{RefusedWithin}

-- The value is as wanted, or this error came in its place.
abbrev pub SucceedsOr : {X E : Type 0} → E → (X → Type 0) → Result X E → Type 0
SucceedsOr error IsWanted r = MatchResult r IsWanted (λ e. e ≡ error)

-- The answer of a parser, with its refusal as one of JSON.
abbrev pub as_json : {X : Type 0} → Result X ParseError → Result X JsonError
as_json (Ok x) = Ok x
as_json (Err e) = Err (json_error e)

-- Of a string, what the parser answers; of anything else, `NotText`.
abbrev pub ReadsText : {X : Type 0} → (Text → Result X ParseError → Type 0) → Option Text
    → Result X JsonError → Type 0
ReadsText reads None r = r ≡ Err NotText
ReadsText {X} reads (Some t) r = (x : Result X ParseError) × reads t x × (r ≡ as_json x)

-- Of a string memory runs out only if room for at most as many items as it has bytes was refused.
abbrev pub RunsOutWithin : {X : Type 0} → (ℕ → Type 0) → Option Text → Result X JsonError → Type 0
RunsOutWithin Refused (Some t) (Err OutOfMemory) = RefusedWithin Refused (length t)
RunsOutWithin Refused _ _ = ⊤
