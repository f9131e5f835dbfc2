use Rattle.std.proofs.Common.{◌∙◌, ap}
use Rattle.iloc_spec_grammar.specs.Syntax.{fields_pieces}
use Rattle.iloc_spec_grammar.specs.Values.{spelled_fields}
use Rattle.iloc_transform.proofs.PrintLemmas.{pairs_pieces}
use Rattle.iloc_transform.proofs.fields.FieldsPieces.write_pieces.Goals as goal

pub returns : goal.returns
returns g c = rw
    (← (pairs_pieces c.as_slice-pairs.result.now
    ∙ ap (λ fs. fields_pieces (spelled_fields fs)) c.as_slice-pairs.ensures.pairs)) c.write_pieces.ensures
