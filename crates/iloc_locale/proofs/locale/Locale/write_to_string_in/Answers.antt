use Rattle.std.specs.Cow.{cow_str_bytes}
use Rattle.iloc_spec_grammar.specs.Values.{text}
use Rattle.iloc_langid.proofs.PrintingLemmas.{printed}
use Rattle.iloc_locale.specs.LocaleReading.{value_of, MeansOnly}
use Rattle.iloc_locale.proofs.NormalLemmas.{text_means_only}
use Rattle.iloc_locale.proofs.locale.Locale.write_to_string_in.Goals as goal

pub returns-clause-back : goal.returns-clause-back
returns-clause-back g c = λ w.
    let M = value_of c.args.self.now in
    printed cow_str_bytes (λ t. MeansOnly t M) (text M) c.write_to_string_in.result
    c.write_to_string_in.ensures.text (text_means_only M w)
