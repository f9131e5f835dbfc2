-- Keywords that are read without memory never run out of it.
use Rattle.std.proofs.Common.{ℕ, Option, Result, Ok, Err}
use Rattle.iloc_spec_grammar.specs.Syntax.{Text}
use Rattle.iloc_word_list.specs.declared.errors.PreferencesParseError.{PreferencesParseError}
use Rattle.iloc_word_list.specs.declared.errors.PreferencesParseError.TheVariants.{InvalidKeywordValue, OutOfMemory}
use Rattle.iloc_keyword_types.specs.Reads.{Reads, ReadsUnder, ReadingRunsOut}

pub never_runs_out : {X V : Type 0} → (Refused : ℕ → Type 0) → (limit : ℕ) → (k q : Text)
    → (stands : X → V) → (read : Option V) → (r : Result (Option X) PreferencesParseError)
    → ReadsUnder k (Reads stands read) q r → ReadingRunsOut Refused limit r
never_runs_out Refused limit k q stands read (Ok x) h = tt
never_runs_out Refused limit k q stands read (Err InvalidKeywordValue) h = tt
never_runs_out Refused limit k q stands read (Err OutOfMemory) h = absurd h.1
