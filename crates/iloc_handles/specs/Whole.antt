-- What is asked of a whole locale.
use Rattle.std.specs.Prelude.{◌≡◌, ◌⊎◌, ℕ}
use Rattle.iloc_spec_grammar.specs.Syntax.{Text, languages}
use Rattle.iloc_spec_grammar.specs.Meaning as meaning
use Rattle.iloc_spec_grammar.specs.Meaning.{Means, HasFault}
use Rattle.iloc_spec_parts.specs.Extending.{extend}
use Rattle.iloc_spec_grammar.specs.Values.{IsWellFormed}
use Rattle.iloc_locale.specs.LocaleReading.{LocaleWantsMemory, unknown_locale}
use Rattle.iloc_calls.specs.declared.status.Status.{Status}
use Rattle.iloc_calls.specs.declared.status.Status.TheVariants.{Done, OutOfMemory}
use Rattle.iloc_handles.specs.declared.whole.Test.{Test}
use Rattle.iloc_handles.specs.declared.whole.Test.TheVariants.{Und, WellFormed}
use Rattle.iloc_handles.specs.Finding.{Changing, Sets}

-- the locale is `und`, or its text means it
abbrev pub Passes : Test → meaning.Locale → Type 0
Passes Und M = M ≡ unknown_locale
Passes WellFormed M = IsWellFormed M

-- the locale becomes what the text means
abbrev pub ParsesTo : Text → Changing
ParsesTo t = Sets (λ before after. Means languages t after) (HasFault languages t)
    (LocaleWantsMemory t)

-- the locale becomes another; memory may be refused, and then it stays
abbrev pub Copies : meaning.Locale → Changing
Copies M before after Done = after ≡ M
Copies M before after OutOfMemory = after ≡ before
Copies M before after _ = ⊥

-- the extension `u` is extended by that of another locale, and all else is the same; memory may be
-- refused, and then all is
abbrev pub ExtendsUnicode : meaning.Locale → Changing
ExtendsUnicode M before after Done =
    let extended = extend before.extensions.unicode M.extensions.unicode in
    after ≡ record before { extensions = record before.extensions { unicode = extended } }
ExtendsUnicode M before after OutOfMemory = after ≡ before
ExtendsUnicode M before after _ = ⊥

-- 1 is written if the text means the locale, and else 0; memory may be wanted to parse it, and then
-- nothing is
abbrev pub TellsMeant : Text → meaning.Locale → ℕ → ℕ → Status → Type 0
TellsMeant t M before after Done = ((after ≡ 1) × Means languages t M)
    ⊎ ((after ≡ 0) × ¬ (Means languages t M))
TellsMeant t M before after OutOfMemory = LocaleWantsMemory t × (after ≡ before)
TellsMeant t M before after _ = ⊥
