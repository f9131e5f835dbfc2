-- The laws of the locale that preferences become, for the locale that was made.
use Rattle.std.proofs.Common.{rules, ap, sym, ◌∙◌, subst}
use Rattle.iloc_spec_grammar.specs.Values.{IsWellFormed}
use Rattle.iloc_spec_grammar.proofs.RawLaws.{languages_table}
use Rattle.iloc_spec_parts.specs.Preferences.{preferences, is_strict}
use Rattle.iloc_spec_parts.proofs.PreferenceLaws.{locale_is_well_formed, preferences_back, back_only, strict_locale}
use Rattle.iloc_data.proofs.locale_preferences.LocalePreferences.to_locale_in.Goals as goal

pub returns-clause-value : goal.returns-clause-value
returns-clause-value g c = search rules

pub returns-clause-well_formed : goal.returns-clause-well_formed
returns-clause-well_formed g c = subst IsWellFormed (sym (returns-clause-value g c))
    (locale_is_well_formed languages_table c.args.self c.look_at_preferences.ensures)

pub returns-clause-back : goal.returns-clause-back
returns-clause-back g c = λ s.
    ap preferences (returns-clause-value g c) ∙ preferences_back c.args.self c.look_at_preferences.ensures s

pub returns-clause-strict : goal.returns-clause-strict
returns-clause-strict g c =
    λ s. ap is_strict (returns-clause-value g c) ∙ strict_locale c.args.self c.look_at_preferences.ensures s

pub returns-clause-only : goal.returns-clause-only
returns-clause-only g c = λ h.
    back_only c.args.self c.look_at_preferences.ensures (sym (ap preferences (returns-clause-value g c)) ∙ h)
