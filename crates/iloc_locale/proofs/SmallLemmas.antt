-- What the reader of small locales owes to each text.
use Rattle.std.proofs.Common.{Result, Ok, Err, IfOk}
use Rattle.iloc_spec_grammar.specs.Syntax.{Text, languages}
use Rattle.iloc_spec_grammar.specs.Meaning.{Means, Fault}
use Rattle.iloc_spec_grammar.proofs.RawLaws.{languages_table}
use Rattle.iloc_spec_parts.specs.Small.{SmallLocale, IsSmall, HasSmallFault, locale_of_small}
use Rattle.iloc_spec_parts.proofs.SmallLaws.{small_means, one_small, small_apart, one_small_fault}
use Rattle.iloc_subtags.specs.declared.parse_error.ParseError.{ParseError}
use Rattle.iloc_subtags.specs.Judging.{Accepts, Refuses}
use Rattle.iloc_subtags.proofs.Judged.{Judges, accepts, refuses}
use Rattle.iloc_langid.specs.SmallLocaleReads.{LocaleParts, small_locale_of, SmallLocaleTextReads}

small_judges : (t : Text) → Judges (IsSmall languages t) (HasSmallFault languages t)
small_judges t =
    record { one = one_small languages_table t; apart = small_apart t; one_fault = λ f g. one_small_fault t }

pub small_accepts : (t : Text) (r : Result LocaleParts ParseError) → SmallLocaleTextReads t r →
    (s : SmallLocale) → IsSmall languages t s → Accepts small_locale_of ⊥ s r
small_accepts t r h = accepts small_locale_of ⊥ (small_judges t) r h

pub small_refuses : (t : Text) (r : Result LocaleParts ParseError) → SmallLocaleTextReads t r →
    (f : Fault) → HasSmallFault languages t f → Refuses ⊥ f r
small_refuses t r h = refuses small_locale_of ⊥ (small_judges t) r h

pub small_meant : (t : Text) (r : Result LocaleParts ParseError) → SmallLocaleTextReads t r →
    IfOk r (λ p. Means languages t (locale_of_small (small_locale_of p)))
small_meant t (Ok p) h = small_means t (small_locale_of p) h
small_meant t (Err e) h = tt
