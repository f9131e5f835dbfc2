-- What a caller of the module finds of a place of a text, and of what is usually meant by it.
use Rattle.std.specs.Prelude.{◌≡◌, ℕ, ◌<◌, ◌^◌, length, true}
use Rattle.iloc_spec_grammar.specs.Syntax.{Text}
use Rattle.iloc_normalize.specs.declared.Mode.{Mode}
use Rattle.iloc_expected.specs.Kinds.{has}
use Rattle.iloc_expected.specs.Standing.{AreExpected, MayStand, pieces_before}
use Rattle.iloc_expected.specs.declared.kinds.PieceKind.{PieceKind}
use Rattle.iloc_hints.specs.Hints.{HasHint, hint_words}
use Rattle.iloc_hints.specs.declared.hints.Hint.{Hint}
use Rattle.iloc_calls.specs.Answers.{HandsOut}
use Rattle.iloc_calls.specs.declared.status.Status.{Status}
use Rattle.iloc_calls.specs.declared.status.Status.TheVariants.{NotFound}

-- the bits are those of the kinds that may stand at the place: of all of them, and, of a text of
-- less than a terabyte, of no other
pub record AreBitsOfKinds (mode : Mode) (t : Text) (place bits : ℕ) : Type 0 where
  pub all : (kind : PieceKind) → MayStand mode (pieces_before t place) kind
      → has (record { bits = bits }) kind ≡ true
  pub exact : length t < 2 ^ 40 → AreExpected mode (pieces_before t place) (record { bits = bits })

-- the words of the text's hint are handed out, if it has one; else nothing is
abbrev pub HintIsTold : Mode → Text → Text → Text → ℕ → Status → Type 0
HintIsTold mode t before after needed NotFound = ((hint : Hint) → ¬ (HasHint mode t hint))
    × (needed ≡ 0) × (after ≡ before)
HintIsTold mode t before after needed status = (hint : Hint) × HasHint mode t hint
    × HandsOut (hint_words hint) before after needed status
