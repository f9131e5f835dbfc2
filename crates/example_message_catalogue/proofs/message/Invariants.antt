-- No entry so far prints the text.
use Rattle.std.proofs.Common.{◌≡◌}
use Rattle.std.specs.List.{AllWithin}
use Rattle.icu_locale_core.specs.Values.{text as text_of}
use Rattle.icu_locale_core.specs.LocaleReading.{value_of}
use Rattle.example_message_catalogue.proofs.message.Given as goal

abbrev pub invariant-loop-entry : goal.invariant-loop-entry
invariant-loop-entry l = AllWithin (λ e. ¬ (text_of (value_of e.0) ≡ l.text)) l.entries 0 l.entry-index
