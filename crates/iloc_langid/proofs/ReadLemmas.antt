-- What else is known of an identifier that was read.
use Rattle.std.specs.Prelude.{⊤}
use Rattle.std.proofs.Common.{List, Result, arith}
use Rattle.iloc_spec_grammar.specs.Syntax.{Text, pieces, languages, two_or_three, Identifier}
use Rattle.iloc_spec_grammar.specs.Meaning.{IdentifierMeans, Fault, HasIdentifierFault}
use Rattle.iloc_spec_grammar.proofs.IdentifierLaws.{one_meaning}
use Rattle.iloc_spec_grammar.proofs.IdentifierTexts.{identifier_apart, one_identifier_fault}
use Rattle.iloc_spec_grammar.proofs.AnySteps.{identifier_chain_means}
use Rattle.iloc_spec_grammar.proofs.RawLaws.{narrow_in_wide}
use Rattle.iloc_spec_grammar.proofs.WiderTables.{identifier_means_wider}
use Rattle.iloc_subtags.specs.declared.parse_error.ParseError.{ParseError}
use Rattle.iloc_langid.specs.declared.identifier.LanguageIdentifier.{LanguageIdentifier}
use Rattle.iloc_subtags.specs.Judging.{Accepts, Refuses}
use Rattle.iloc_subtags.proofs.Judged.{Judges, accepts}
use Rattle.iloc_langid.specs.Reads.{value_of, IdentifierReads, KeepsThroughSteps}

wide : (t : Text) (i : Identifier) → IdentifierMeans two_or_three (pieces t) i →
    IdentifierMeans languages (pieces t) i
wide t i m = identifier_means_wider narrow_in_wide (pieces t) i m

pub identifiers_judge : (ps : List Text) →
    Judges (IdentifierMeans languages ps) (HasIdentifierFault languages ps)
identifiers_judge ps =
    record { one = one_meaning ps; apart = identifier_apart ps; one_fault = λ f g. one_identifier_fault ps }

pub reads_accepts : (ps : List Text) (r : Result LanguageIdentifier ParseError) → IdentifierReads ps r →
    (i : Identifier) → IdentifierMeans languages ps i → Accepts value_of ⊤ i r
reads_accepts ps r h = accepts value_of ⊤ (identifiers_judge ps) r h

pub reads_refuses : (ps : List Text) (r : Result LanguageIdentifier ParseError) → IdentifierReads ps r →
    (f : Fault) → HasIdentifierFault languages ps f → Refuses ⊤ f r
reads_refuses ps r h = grind arith

pub reads_steps : (t : Text) (r : Result LanguageIdentifier ParseError) → IdentifierReads (pieces t) r →
    KeepsThroughSteps t r
reads_steps t r h = grind (arith, identifier_chain_means)

-- what the narrow table accepts is accepted, with the same value
pub reads_narrow : (t : Text) (r : Result LanguageIdentifier ParseError) → IdentifierReads (pieces t) r →
    (i : Identifier) → IdentifierMeans two_or_three (pieces t) i → Accepts value_of ⊤ i r
reads_narrow t r h i m = reads_accepts (pieces t) r h i (wide t i m)
