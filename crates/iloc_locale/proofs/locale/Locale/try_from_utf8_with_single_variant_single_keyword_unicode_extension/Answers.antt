-- from what is read of a small text
use Rattle.iloc_locale.proofs.SmallLemmas.{small_accepts, small_refuses, small_meant}
use Rattle.iloc_locale.proofs.locale.Locale.try_from_utf8_with_single_variant_single_keyword_unicode_extension.Goals as goal

pub returns-clause-accepted : goal.returns-clause-accepted
returns-clause-accepted c =
    small_accepts c.args.code_units.now c.read_small_locale.result c.read_small_locale.ensures

pub returns-clause-refused : goal.returns-clause-refused
returns-clause-refused c =
    small_refuses c.args.code_units.now c.read_small_locale.result c.read_small_locale.ensures

pub returns-clause-meant : goal.returns-clause-meant
returns-clause-meant c =
    small_meant c.args.code_units.now c.read_small_locale.result c.read_small_locale.ensures
