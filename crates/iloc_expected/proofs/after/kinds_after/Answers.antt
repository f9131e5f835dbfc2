use Rattle.iloc_expected.proofs.Sets.{all_are, exact_are, none_of, with_these}
use Rattle.iloc_expected.proofs.after.kinds_after.Goals as goal

pub returns-clause-all : goal.returns-clause-all
returns-clause-all c ps h = all_are h c.with.result c.is_none-none.result c.has_singleton_left-left.result
    (none_of c.args.reading.state.variants c.is_none-none.result c.is_none-none.ensures)
    c.has_singleton_left-left.ensures.none
    (with_these c.args.reading.state.part c.args.reading.keyed c.args.mode c.is_none-none.result
    c.has_singleton_left-left.result _ _ _ _ _ _ _ c.may_have_variant.ensures c.may_begin_block.ensures
    c.may_end.ensures c.piece_bits.ensures c.with-words.ensures c.with-all.ensures c.with.ensures)

pub returns-clause-exact : goal.returns-clause-exact
returns-clause-exact c ps h = exact_are h c.with.result c.is_none-none.result c.has_singleton_left-left.result
    (none_of c.args.reading.state.variants c.is_none-none.result c.is_none-none.ensures)
    c.has_singleton_left-left.ensures.some c.has_singleton_left-left.ensures.none
    (with_these c.args.reading.state.part c.args.reading.keyed c.args.mode c.is_none-none.result
    c.has_singleton_left-left.result _ _ _ _ _ _ _ c.may_have_variant.ensures c.may_begin_block.ensures
    c.may_end.ensures c.piece_bits.ensures c.with-words.ensures c.with-all.ensures c.with.ensures)
