-- What a caller finds of a refused text beside its fault: which kinds of pieces may stand at a place, and
-- what is usually meant.
use Rattle.std.specs.Prelude.{◌≡◌, ◌≢◌, ◌↔◌, ℕ, ◌<◌, ◌≤◌, ◌^◌, true, length}
use Rattle.iloc_spec_grammar.specs.Syntax.{Text}
use Rattle.iloc_normalize.specs.declared.Mode.{Mode}
use Rattle.iloc_faults.specs.Places.{IsFaultPlace}
use Rattle.iloc_expected.specs.Kinds.{has}
use Rattle.iloc_expected.specs.Standing.{AreExpected, MayStand, pieces_before}
use Rattle.iloc_expected.specs.Words.{words_of}
use Rattle.iloc_expected.specs.declared.kinds.Expected.{Expected}
use Rattle.iloc_expected.specs.declared.kinds.PieceKind.{PieceKind}
use Rattle.iloc_hints.specs.Hints.{HasHint, hint_words}
use Rattle.iloc_hints.specs.declared.hints.Hint.{Hint}
use Rattle.iloc_hints.specs.declared.hints.Hint.TheVariants.{Mark, Blanks, System, Codeset, Underscores}
use Rattle.iloc_calls.specs.Answers.{HandsOut}
use Rattle.iloc_calls.specs.Numbers.{EndsAs, number_of}
use Rattle.iloc_calls.specs.declared.status.Status.{Status}
use Rattle.iloc_calls.specs.declared.status.Status.TheVariants.{Done, UnknownNumber}

-- the set of a number: a kind is in it if the bit at the number of the kind is set
abbrev pub kinds_of : ℕ → Expected
kinds_of number = record { bits = number }

-- the set has the kinds that may stand at the place, and no other one if the text has less than a
-- terabyte; at the place of a fault it has one
pub record AreKindsAt (mode : Mode) (t : Text) (place : ℕ) (set : Expected) : Type 0 where
  pub all : (kind : PieceKind) → MayStand mode (pieces_before t place) kind → has set kind ≡ true
  pub exact : length t < 2 ^ 40 → AreExpected mode (pieces_before t place) set
  pub some : (end : ℕ) → IsFaultPlace mode t place end → (kind : PieceKind) × (has set kind ≡ true)

-- the number of that set is written, of an accepted text too
abbrev pub TellsKinds : Mode → Text → ℕ → ℕ → Status → Type 0
TellsKinds mode t place after Done = AreKindsAt mode t place (kinds_of after)
TellsKinds mode t place after _ = ⊥

-- the words of the set of this number are handed out; if another bit than that of a kind is set, nothing is
pub record TellsKindWords (number : ℕ) (before after : Text) (needed result : ℕ) : Type 0 where
  pub known : number < 2 ^ 13 → EndsAs (HandsOut (words_of (kinds_of number)) before after needed) result
  pub unknown : 2 ^ 13 ≤ number
      → (result ≡ number_of UnknownNumber) × (needed ≡ 0) × (after ≡ before)

-- the number of a hint
abbrev pub hint_number : Hint → ℕ
hint_number Mark = 1
hint_number Blanks = 2
hint_number System = 3
hint_number Codeset = 4
hint_number Underscores = 5

-- that of the hint that a text has, or 0 if it has none
pub record IsHintNumber (mode : Mode) (t : Text) (number : ℕ) : Type 0 where
  pub some : (hint : Hint) → (number ≡ hint_number hint) ↔ HasHint mode t hint
  pub none : ((hint : Hint) → ¬ (HasHint mode t hint)) → number ≡ 0

-- the number of the hint is written, of an accepted text 0
abbrev pub TellsHint : Mode → Text → ℕ → Status → Type 0
TellsHint mode t after Done = IsHintNumber mode t after
TellsHint mode t after _ = ⊥

-- the words of the hint of this number are handed out; of a number that is none's, nothing is
pub record TellsHintWords (number : ℕ) (before after : Text) (needed result : ℕ) : Type 0 where
  pub known : (hint : Hint) → number ≡ hint_number hint
      → EndsAs (HandsOut (hint_words hint) before after needed) result
  pub unknown : ((hint : Hint) → number ≢ hint_number hint)
      → (result ≡ number_of UnknownNumber) × (needed ≡ 0) × (after ≡ before)
