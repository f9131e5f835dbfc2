use Rattle.std.proofs.Common.{rules, ◌≡◌}
use Rattle.iloc_unicode.specs.Equality.{fields_eq}
use Rattle.iloc_unicode.specs.EqualityLaws.{fields_exact}
use Rattle.iloc_unicode.proofs.keywords.KeywordsPartialEq.eq.Goals as goal

pub returns-clause-equality : goal.returns-clause-equality
returns-clause-equality c =
    let same : c.eq.result ≡ fields_eq c.args.self.now c.args.other.now = search rules in
    rw same (fields_exact c.args.self.now c.args.other.now)
