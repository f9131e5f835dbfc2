use Rattle.std.proofs.Common.{rules, ◌≡◌}
use Rattle.iloc_word_list.specs.Equality.{words_eq}
use Rattle.iloc_word_list.specs.EqualityLaws.{words_exact}
use Rattle.iloc_word_list.proofs.value.ValuePartialEq.eq.Goals as goal

pub returns-clause-equality : goal.returns-clause-equality
returns-clause-equality c =
    let same : c.eq.result ≡ words_eq c.args.self.now c.args.other.now = search rules in
    rw same (words_exact c.args.self.now c.args.other.now)
