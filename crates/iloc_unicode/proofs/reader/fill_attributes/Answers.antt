use Rattle.std.proofs.Common.{sym, ◌∙◌}
use Rattle.iloc_subtags.specs.Left.{left}
use Rattle.iloc_unicode.proofs.AttributeLemmas.{no_attributes}
use Rattle.iloc_unicode.proofs.reader.fill_attributes.Goals as goal

pub returns-clause-value : goal.returns-clause-value
returns-clause-value g c =
    c.requires
    ∙ sym
    (no_attributes (left c.args.iter.now) (sym c.next_has_length.ensures ∙ c.if-next_has_length.false)).0

pub returns-clause-rest : goal.returns-clause-rest
returns-clause-rest g c =
    sym (no_attributes (left c.args.iter.now) (sym c.next_has_length.ensures ∙ c.if-next_has_length.false)).1
