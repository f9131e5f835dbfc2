use Rattle.iloc_spec_grammar.proofs.SameText.{well_formed_is}
use Rattle.iloc_spec_grammar.proofs.Corollaries.{same_text_same_value}
use Rattle.iloc_locale.specs.LocaleReading.{value_of}
use Rattle.iloc_locale.proofs.locale.Locale.is_well_formed.Goals as goal

pub returns-clause-exactly : goal.returns-clause-exactly
returns-clause-exactly c =
    let tested = well_formed_is (value_of c.args.self.now)
    (record { id = c.is_unknown.ensures.value; extensions = c.is_well_formed.ensures.value }) in (
      λ t. tested.1 (c.is_well_formed.ensures.exactly.0 t),
      λ w. c.is_well_formed.ensures.exactly.1 (tested.0 w),
    )

pub returns-clause-tests : goal.returns-clause-tests
returns-clause-tests c = c.is_well_formed.ensures.exactly

pub returns-clause-back : goal.returns-clause-back
returns-clause-back c = λ t. (returns-clause-exactly c).0 t

pub returns-clause-one : goal.returns-clause-one
returns-clause-one c =
    λ t M w e. same_text_same_value M (value_of c.args.self.now) w ((returns-clause-exactly c).0 t) e
