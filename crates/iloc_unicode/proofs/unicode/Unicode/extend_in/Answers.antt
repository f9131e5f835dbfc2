use Rattle.std.proofs.Common.{◌≡◌, rules, refl, length}
use Rattle.std.proofs.lemmas.Result.{on_ok_weaker}
use Rattle.iloc_unicode.specs.UnicodeValue.{value_of}
use Rattle.iloc_unicode.proofs.UnicodeLemmas.{extended_alike}
use Rattle.iloc_unicode.proofs.unicode.Unicode.extend_in.Goals as goal

pub returns-then-is_empty-clause-ok : goal.returns-then-is_empty-clause-ok
returns-then-is_empty-clause-ok g c =
    let none : length c.args.other.attributes ≡ 0 = search rules in
    on_ok_weaker c.extend_from_keywords_in.result (λ is. extended_alike (value_of c.args.self.now)
    (value_of c.args.other) _ c.as_slice.ensures.ascending none refl is) c.extend_from_keywords_in.ensures.ok
