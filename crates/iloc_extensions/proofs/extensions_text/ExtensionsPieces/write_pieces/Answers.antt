-- Others alone are printed one by one, and else the pieces of the parts.
use Rattle.std.proofs.Common.{List, flat_map, ap, ◌∙◌, subst}
use Rattle.iloc_spec_grammar.specs.Values.{other_spelling}
use Rattle.iloc_writeable.specs.Pieces.{hyphened}
use Rattle.iloc_writeable.specs.Writing.{Writes}
use Rattle.iloc_extensions.specs.ExtensionsValue.{value_of}
use Rattle.iloc_extensions.proofs.SplitLemmas.{parts_pieces}
use Rattle.iloc_extensions.proofs.extensions_text.ExtensionsPieces.write_pieces.Goals as goal
use Rattle.iloc_spec_grammar.specs.Syntax.{Text}

pub returns-then-has_others_alone : goal.returns-then-has_others_alone
returns-then-has_others_alone g c =
    subst (λ (ps : List Text). Writes g.S.Sink.took g.S.Sink.failed c.args.sink.now
    (hyphened c.args.first ps) c.write_pieces.new.sink c.write_pieces.result)
    (ap (flat_map other_spelling) c.as_slice.ensures.value
    ∙ c.has_others_alone.ensures c.if-has_others_alone.true) c.write_pieces.ensures

pub returns : goal.returns
returns g c =
    let parts = c.parts.ensures in
    subst (λ (ps : List Text). Writes g.S.Sink.took g.S.Sink.failed c.args.sink.now
    (hyphened c.args.first ps) c.write_pieces-2.new.sink c.write_pieces-2.result)
    (parts_pieces (value_of c.args.self.now) _ _ _ _ _ parts.others parts.transform
    parts.unicode parts.private) c.write_pieces-2.ensures
