-- The law of the default ones extended; the others are found.
use Rattle.std.proofs.Common.{rules, ap, ◌∙◌}
use Rattle.iloc_spec_parts.specs.Preferences.{merge}
use Rattle.iloc_spec_parts.proofs.PreferenceLaws.{default_merge}
use Rattle.iloc_data.proofs.locale_preferences.LocalePreferences.extend.Goals as goal

pub returns-clause-value : goal.returns-clause-value
returns-clause-value c = search rules

pub returns-clause-of_default : goal.returns-clause-of_default
returns-clause-of_default c =
    λ h. returns-clause-value c ∙ (ap (λ p. merge p c.args.other) h ∙ default_merge c.args.other)
