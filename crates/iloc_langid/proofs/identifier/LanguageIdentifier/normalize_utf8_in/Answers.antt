use Rattle.std.specs.Cow.{cow_str_bytes}
use Rattle.iloc_spec_grammar.specs.Syntax.{pieces}
use Rattle.iloc_spec_grammar.specs.Values.{identifier_text}
use Rattle.iloc_langid.specs.Normalizing.{IsNormalizedIdentifier}
use Rattle.iloc_langid.proofs.NormalAnswers.{prints_accepts, prints_refuses}
use Rattle.iloc_langid.proofs.ReadLemmas.{identifiers_judge}
use Rattle.iloc_langid.proofs.NormalizingLemmas.{answered_text, answered_other}
use Rattle.iloc_normalize.proofs.NormalLemmas.{normal_text, refused, runs_out}
use Rattle.iloc_normalize.specs.declared.Mode.TheVariants.{Langid}
use Rattle.iloc_langid.proofs.identifier.LanguageIdentifier.normalize_utf8_in.Goals as goal

pub returns-in-Some-clause-ok : goal.returns-in-Some-clause-ok
returns-in-Some-clause-ok g c =
    let t = c.args.input.now in
    normal_text Langid t (IsNormalizedIdentifier t) (answered_text t) c.in-Some.normal
    (c.in-Some.ensures.normal Langid)

pub returns-in-Some-clause-err : goal.returns-in-Some-clause-err
returns-in-Some-clause-err g c =
    refused Langid c.args.input.now c.in-Some.normal (c.in-Some.ensures.normal Langid)

pub returns-in-Some-clause-memory : goal.returns-in-Some-clause-memory
returns-in-Some-clause-memory g c =
    runs_out Langid c.args.input.now (answered_other c.args.input.now) c.in-Some.normal
    (c.in-Some.ensures.normal Langid)

pub returns-in-Some-clause-accepted : goal.returns-in-Some-clause-accepted
returns-in-Some-clause-accepted g c =
    prints_accepts cow_str_bytes identifier_text (identifiers_judge (pieces c.args.input.now))
    c.in-Some.normal (returns-in-Some-clause-ok g c) (returns-in-Some-clause-err g c) (λ x h. h.0.is.text_is)

pub returns-in-Some-clause-refused : goal.returns-in-Some-clause-refused
returns-in-Some-clause-refused g c =
    prints_refuses cow_str_bytes identifier_text (identifiers_judge (pieces c.args.input.now))
    c.in-Some.normal (returns-in-Some-clause-ok g c) (returns-in-Some-clause-err g c) (λ x h. h.0.is.text_is)

pub returns-in-None-clause-accepted : goal.returns-in-None-clause-accepted
returns-in-None-clause-accepted g c = prints_accepts cow_str_bytes identifier_text
    (identifiers_judge (pieces c.args.input.now)) c.normalize_other.result c.normalize_other.ensures.ok
    c.normalize_other.ensures.err (λ x h. h.0.is.text_is)

pub returns-in-None-clause-refused : goal.returns-in-None-clause-refused
returns-in-None-clause-refused g c = prints_refuses cow_str_bytes identifier_text
    (identifiers_judge (pieces c.args.input.now)) c.normalize_other.result c.normalize_other.ensures.ok
    c.normalize_other.ensures.err (λ x h. h.0.is.text_is)
