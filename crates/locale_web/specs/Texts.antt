-- What a caller of the module finds after a call that tells a part of what a text means, or whether a
-- range stands for it: what it finds after the call of the C library, but that memory never runs out.
use Rattle.std.specs.Prelude.{◌≡◌, ◌≢◌, ℕ}
use Rattle.iloc_spec_grammar.specs.Syntax.{Text}
use Rattle.iloc_normalize.specs.declared.Mode.{Mode}
use Rattle.iloc_text_parts.specs.declared.Part.{Part}
use Rattle.iloc_calls.specs.declared.status.Status.{Status}
use Rattle.iloc_calls.specs.declared.status.Status.TheVariants.{OutOfMemory}
use Rattle.iloc_text_calls.specs.Answers.{MatchesTo, TellsPart}

-- the part of the locale that the text means is handed out, if there is one
abbrev pub PartIsTold : Mode → Text → Part → Text → Text → ℕ → Status → Type 0
PartIsTold mode t part before after needed status =
    TellsPart mode t part before after needed status × (status ≢ OutOfMemory)

-- 1 is written if the normal text matches the normal range, and else 0
abbrev pub MatchIsWritten : Text → Text → ℕ → ℕ → Status → Type 0
MatchIsWritten t range before after status =
    MatchesTo t range before after status × (status ≢ OutOfMemory)
