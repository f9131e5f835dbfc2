-- from what is read of the whole
use Rattle.iloc_spec_grammar.specs.Syntax.{pieces}
use Rattle.iloc_langid.proofs.SmallLemmas.{small_accepts, small_refuses, small_means}
use Rattle.iloc_langid.proofs.identifier.LanguageIdentifier.try_from_utf8_with_single_variant.Goals as goal

pub returns-clause-accepted : goal.returns-clause-accepted
returns-clause-accepted c =
    small_accepts (pieces c.args.code_units.now) c.read_small_whole.result c.read_small_whole.ensures

pub returns-clause-refused : goal.returns-clause-refused
returns-clause-refused c =
    small_refuses (pieces c.args.code_units.now) c.read_small_whole.result c.read_small_whole.ensures

pub returns-clause-meant : goal.returns-clause-meant
returns-clause-meant c =
    small_means (pieces c.args.code_units.now) c.read_small_whole.result c.read_small_whole.ensures
