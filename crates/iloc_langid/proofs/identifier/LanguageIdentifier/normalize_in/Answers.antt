-- a text is normalized as its bytes are
use Rattle.std.proofs.Common.{length, subst}
use Rattle.iloc_memory.specs.Refusals.{RefusedWithin}
use Rattle.std.specs.Prelude.{⊤}
use Rattle.std.specs.Cow.{cow_str_bytes}
use Rattle.iloc_spec_grammar.specs.Syntax.{Text, pieces, languages, Identifier}
use Rattle.iloc_spec_grammar.specs.Meaning.{IdentifierMeans, Fault, HasIdentifierFault}
use Rattle.iloc_spec_grammar.specs.Values.{identifier_text}
use Rattle.iloc_subtags.specs.Judging.{Accepts, Refuses, RunsOutOnlyIf}
use Rattle.iloc_langid.proofs.identifier.LanguageIdentifier.normalize_in.Goals as goal

pub returns-clause-accepted : goal.returns-clause-accepted
returns-clause-accepted g c = subst (λ (t : Text). (i : Identifier) → IdentifierMeans languages (pieces t) i →
    Accepts cow_str_bytes ⊤ (identifier_text i) c.normalize_utf8_in.result) c.as_bytes.ensures.value
    c.normalize_utf8_in.ensures.accepted

pub returns-clause-refused : goal.returns-clause-refused
returns-clause-refused g c = subst (λ (t : Text).
    (f : Fault) → HasIdentifierFault languages (pieces t) f → Refuses ⊤ f c.normalize_utf8_in.result)
    c.as_bytes.ensures.value c.normalize_utf8_in.ensures.refused

pub returns-clause-out_of_memory : goal.returns-clause-out_of_memory
returns-clause-out_of_memory g c = subst
    (λ (t : Text). RunsOutOnlyIf (RefusedWithin g.M.Memory.refused (length t)) c.normalize_utf8_in.result)
    c.as_bytes.ensures.value c.normalize_utf8_in.ensures.out_of_memory
