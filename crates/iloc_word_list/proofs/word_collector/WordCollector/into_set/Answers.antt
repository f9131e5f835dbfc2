use Rattle.std.proofs.Common.{◌≡◌, ap, sym, ◌∙◌, subst, rules}
use Rattle.iloc_spec_grammar.specs.Syntax.{word_cmp}
use Rattle.iloc_spec_grammar.specs.Meaning.{set_of}
use Rattle.iloc_spec_grammar.proofs.ValuesLaws.{set_of_ascending}
use Rattle.iloc_word_list.specs.Ascending.{ascends}
use Rattle.iloc_word_list.specs.Collected.{collected_words, IsCollected}
use Rattle.iloc_word_list.proofs.CollectorLaws.{in_order}
use Rattle.iloc_word_list.proofs.word_collector.WordCollector.into_set.Goals as goal

pub from_vec_unchecked-requires : goal.from_vec_unchecked-requires
from_vec_unchecked-requires g c =
    let was = subst IsCollected c.in-Many.is c.self.invariant in
    let ascend =
    (in_order c.in-Many.words.items (was.1 (sym c.in-Many.ascend-is ∙ c.if-ascend.true))).ascend in
    let shown = ap (λ v. ascends word_cmp v.items) c.in-Many.words-is ∙ ascend in
    search (rules, shown)

pub returns-in-Four : goal.returns-in-Four
returns-in-Four g c =
    let was = subst IsCollected c.in-Four.is c.self.invariant in
    let same : c.in-Four.set ≡ set_of c.args.self = sym (set_of_ascending c.in-Four.set was.0)
    ∙ ap set_of (sym (ap collected_words c.in-Four.is) ∙ c.self.view_is) in
    let shown = c.in-Four.set-is in
    cc

pub returns-then-ascend : goal.returns-then-ascend
returns-then-ascend g c =
    let was = subst IsCollected c.in-Many.is c.self.invariant in
    let set : c.in-Many.words.items ≡ set_of c.args.self =
    (in_order c.in-Many.words.items (was.1 (sym c.in-Many.ascend-is ∙ c.if-ascend.true))).is
    ∙ ap set_of (sym (ap collected_words c.in-Many.is) ∙ c.self.view_is) in
    let shown = ap (λ v. v.items) c.in-Many.words-is in
    let made = c.from_vec_unchecked.ensures in
    cc
