use Rattle.std.proofs.Common.{◌∙◌, ap}
use Rattle.std.specs.Ordering.{is_eq}
use Rattle.iloc_locale.specs.LocaleReading.{value_of}
use Rattle.iloc_locale.proofs.NormalLemmas.{same_meaning_ties, refusal_differs}
use Rattle.iloc_locale.proofs.locale.Locale.compare_parsed.Goals as goal

pub returns-in-Ok-clause-same : goal.returns-in-Ok-clause-same
returns-in-Ok-clause-same g c =
    same_meaning_ties c.args.other.now (value_of c.in-Ok.locale) (value_of c.args.self.now) _
    c.in-Ok.ensures.reads (c.is_eq.ensures ∙ ap is_eq c.total_cmp.ensures)

pub returns-in-Err-clause-same : goal.returns-in-Err-clause-same
returns-in-Err-clause-same g c = refusal_differs c.args.other.now (value_of c.args.self.now) c.in-Err.refusal
    c.differs.result c.in-Err.ensures.reads c.differs.ensures.same
