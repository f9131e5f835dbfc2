use Rattle.iloc_locale.proofs.every_locale_is_a_value.Goals as goal

pub returns : goal.returns
returns c = record { id = c.is_unknown.ensures.value; extensions = c.look_at.ensures }
