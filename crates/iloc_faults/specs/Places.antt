-- Where the fault of a text stands: at the first piece that no accepted text has right after the
-- pieces before it, or at the end. Pieces count whole: the fault of `en-foo` stands at `foo`, though
-- `en-foobar` is accepted. This library's rule.
use Rattle.std.specs.Prelude.{◌≡◌, ◌⊎◌, ℕ, ◌+◌, List, [], ◌∷◌, ◌++◌, length}
use Rattle.iloc_spec_grammar.specs.Syntax.{Text, pieces, dashes, languages, Identifier}
use Rattle.iloc_spec_grammar.specs.Meaning.{Means, IdentifierMeans}
use Rattle.iloc_spec_grammar.specs.Meaning as grammar
use Rattle.iloc_spec_parts.specs.DataLocales.{DataLocale, DataMeans}
use Rattle.iloc_normalize.specs.Answered.{HasRefusal}
use Rattle.iloc_normalize.specs.declared.Mode.{Mode}
use Rattle.iloc_normalize.specs.declared.Mode.TheVariants.{Langid, Locale, Data}
use Rattle.iloc_faults.specs.declared.Fault.{Fault}

-- the text means something in the mode
abbrev pub IsAccepted : Mode → Text → Type 0
IsAccepted Langid t = (i : Identifier) × IdentifierMeans languages (pieces t) i
IsAccepted Locale t = (M : grammar.Locale) × Means languages t M
IsAccepted Data t = (d : DataLocale) × DataMeans languages t d

-- some accepted text begins with these pieces
pub record GoOn (mode : Mode) (ps : List Text) : Type 0 where
  pub text : Text
  pub accepted : IsAccepted mode text
  pub rest : List Text
  pub begins : pieces text ≡ ps ++ rest

-- the bytes of the first piece with which the pieces of the text no longer go on; before it each
-- piece has its bytes and a hyphen
pub record StandsAtPiece (mode : Mode) (t : Text) (start end : ℕ) : Type 0 where
  pub before : List Text
  pub piece : Text
  pub after : List Text
  pub cut : pieces t ≡ before ++ (piece ∷ after)
  pub go_on : GoOn mode before
  pub no_longer : ¬ (GoOn mode (before ++ (piece ∷ [])))
  pub from : start ≡ length (dashes before)
  pub to : end ≡ start + length piece

-- the end of the text, if all of its pieces go on: it ends too early
pub record StandsAtEnd (mode : Mode) (t : Text) (start end : ℕ) : Type 0 where
  pub go_on : GoOn mode (pieces t)
  pub from : start ≡ length t
  pub to : end ≡ length t

-- where the fault of a refused text stands
abbrev pub IsFaultPlace : Mode → Text → ℕ → ℕ → Type 0
IsFaultPlace mode t start end = StandsAtPiece mode t start end ⊎ StandsAtEnd mode t start end

-- why the text is refused, and where its fault stands
pub record IsFault (mode : Mode) (t : Text) (f : Fault) : Type 0 where
  pub refusal : HasRefusal mode t f.refusal
  pub place : IsFaultPlace mode t f.start f.end
