use Rattle.iloc_data.specs.DataValue.{value_of}
use Rattle.iloc_data.proofs.ParentLemmas.{language_left}
use Rattle.iloc_data.proofs.data_locale.DataLocale.parent.Goals as goal

pub returns : goal.returns
returns c =
    language_left (value_of c.args.self.now) (value_of c.default.result)
    (value_of c.with_whole_region-parent.result) c.printed_subdivision.result
    c.printed_subdivision.ensures c.if-is_some.ensures c.if-is_some-2.ensures
    c.with_whole_region-parent.ensures c.if-is_some-3.ensures
    c.if-is_some-4.ensures c.if-is_unknown.ensures.1 c.default.ensures
