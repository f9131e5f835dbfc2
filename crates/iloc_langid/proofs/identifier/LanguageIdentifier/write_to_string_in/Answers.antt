use Rattle.std.specs.Cow.{cow_str_bytes}
use Rattle.iloc_spec_grammar.specs.Values.{identifier_text}
use Rattle.iloc_langid.specs.Reads.{value_of, IdentifierMeansOnly}
use Rattle.iloc_langid.proofs.PrintingLemmas.{printed, identifier_text_means_only}
use Rattle.iloc_langid.proofs.identifier.LanguageIdentifier.write_to_string_in.Goals as goal

pub returns-clause-back : goal.returns-clause-back
returns-clause-back g c =
    let i = value_of c.args.self.now in
    printed cow_str_bytes (λ t. IdentifierMeansOnly t i) (identifier_text i) c.write_to_string_in.result
    c.write_to_string_in.ensures.text (identifier_text_means_only i c.is_unknown.ensures.value)
