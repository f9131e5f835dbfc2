use Rattle.std.proofs.Common.{rules, ◌∙◌}
use Rattle.std.proofs.lemmas.List.Filters.{dedup_is}
use Rattle.iloc_word_list.proofs.CollectorLaws.{sorted_out}
use Rattle.iloc_word_list.proofs.word_collector.sorted.Goals as goal

pub from_vec_unchecked-requires : goal.from_vec_unchecked-requires
from_vec_unchecked-requires g c =
    let ascend = (sorted_out c.args.words.items c.sort_unstable.new.self.items c.dedup.new.self.items
    c.sort_unstable.ensures.permutation c.sort_unstable.ensures.sorted
    (dedup_is _ _ _ c.dedup.ensures.filtered)).ascend in
    search (rules, ascend)

pub returns : goal.returns
returns g c =
    c.from_vec_unchecked.ensures
    ∙ (sorted_out c.args.words.items c.sort_unstable.new.self.items c.dedup.new.self.items
    c.sort_unstable.ensures.permutation c.sort_unstable.ensures.sorted
    (dedup_is _ _ _ c.dedup.ensures.filtered)).is
