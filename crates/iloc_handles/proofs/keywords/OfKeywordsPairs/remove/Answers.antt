-- What a test in turn keeps are the keywords with other keys.
use Rattle.std.proofs.Common.{rules, ap}
use Rattle.std.specs.Prelude.{not}
use Rattle.std.proofs.lemmas.Fn.{filter_same}
use Rattle.iloc_spec_grammar.specs.Syntax.{is_same}
use Rattle.iloc_locale.specs.LocaleReading.{value_of}
use Rattle.iloc_handles.specs.Keywords.{with_keywords}
use Rattle.iloc_handles.proofs.keywords.OfKeywordsPairs.remove.Goals as goal

pub returns : goal.returns
returns c =
    ap (λ fs. with_keywords fs (value_of c.args.locale.now))
    (filter_same _ (λ f. not (is_same c.args.key.now f.0)) _ (λ x b f call. search rules)
    c.args.locale.now.extensions.unicode.keywords
    c.retain_by_key.new.self c.retain_by_key.ensures)
