use Rattle.std.proofs.Common.{ap, sym, ◌∙◌, subst}
use Rattle.iloc_spec_grammar.proofs.RawLaws.{languages_table}
use Rattle.iloc_spec_grammar.specs.Values.{IsWellFormed, text}
use Rattle.iloc_spec_parts.proofs.DataLaws.{text_of_data, locale_of_data_is_well_formed, only_locale}
use Rattle.iloc_data.specs.DataValue.{value_of}
use Rattle.iloc_data.proofs.data_locale.DataLocale.into_locale.Goals as goal

pub returns-clause-text : goal.returns-clause-text
returns-clause-text c = ap text c.as_locale.ensures ∙ text_of_data (value_of c.args.self)

pub returns-clause-well_formed : goal.returns-clause-well_formed
returns-clause-well_formed c = subst IsWellFormed (sym c.as_locale.ensures)
    (locale_of_data_is_well_formed languages_table (value_of c.args.self) c.look_at_data_locale.ensures)

pub returns-clause-only : goal.returns-clause-only
returns-clause-only c =
    λ M v w e. only_locale languages_table (value_of c.args.self) c.look_at_data_locale.ensures M v w e
    ∙ sym c.as_locale.ensures
