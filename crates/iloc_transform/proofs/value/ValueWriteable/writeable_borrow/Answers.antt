use Rattle.std.proofs.Common.{sym, ap, ◌∙◌}
use Rattle.iloc_spec_grammar.specs.Values.{field_value_text}
use Rattle.iloc_transform.proofs.PrintLemmas.{value_text_none}
use Rattle.iloc_transform.proofs.value.ValueWriteable.writeable_borrow.Goals as goal

pub returns-then-is_empty-clause-text : goal.returns-then-is_empty-clause-text
returns-then-is_empty-clause-text c =
    value_text_none c.self.inside.subtags (sym c.is_empty.ensures ∙ c.if-is_empty.true)
    ∙ ap field_value_text c.self.view_is
