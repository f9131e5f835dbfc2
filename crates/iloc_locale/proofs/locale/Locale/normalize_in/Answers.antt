-- a text is normalized as its bytes are
use Rattle.std.specs.Prelude.{⊤}
use Rattle.std.proofs.Common.{IfErr, length, subst}
use Rattle.iloc_memory.specs.Refusals.{RefusedWithin}
use Rattle.iloc_spec_grammar.specs.Syntax.{Text, languages}
use Rattle.iloc_spec_grammar.specs.Meaning.{Locale, Means, Fault, HasFault}
use Rattle.iloc_spec_grammar.specs.Values.{text}
use Rattle.std.specs.Cow.{cow_str_bytes}
use Rattle.iloc_subtags.specs.Judging.{Refusal, Accepts, Refuses, RunsOutOnlyIf}
use Rattle.iloc_locale.specs.LocaleReading.{NormalizingWantsMemory}
use Rattle.iloc_locale.proofs.locale.Locale.normalize_in.Goals as goal

pub returns-clause-err : goal.returns-clause-err
returns-clause-err g c =
    subst (λ (t : Text). IfErr c.normalize_utf8_in.result (Refusal (HasFault languages t) ⊤))
    c.as_bytes.ensures.value c.normalize_utf8_in.ensures.err

pub returns-clause-memory : goal.returns-clause-memory
returns-clause-memory g c =
    subst (λ (t : Text). RunsOutOnlyIf (NormalizingWantsMemory t) c.normalize_utf8_in.result)
    c.as_bytes.ensures.value c.normalize_utf8_in.ensures.memory

pub returns-clause-accepted : goal.returns-clause-accepted
returns-clause-accepted g c = subst (λ (t : Text).
    (M : Locale) → Means languages t M → Accepts cow_str_bytes ⊤ (text M) c.normalize_utf8_in.result)
    c.as_bytes.ensures.value c.normalize_utf8_in.ensures.accepted

pub returns-clause-refused : goal.returns-clause-refused
returns-clause-refused g c =
    subst (λ (t : Text). (f : Fault) → HasFault languages t f → Refuses ⊤ f c.normalize_utf8_in.result)
    c.as_bytes.ensures.value c.normalize_utf8_in.ensures.refused

pub returns-clause-out_of_memory : goal.returns-clause-out_of_memory
returns-clause-out_of_memory g c = subst
    (λ (t : Text). RunsOutOnlyIf (RefusedWithin g.M.Memory.refused (length t)) c.normalize_utf8_in.result)
    c.as_bytes.ensures.value c.normalize_utf8_in.ensures.out_of_memory
