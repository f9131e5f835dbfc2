-- The pieces of the parts are those of the extensions.
use Rattle.std.proofs.Common.{ap, ◌∙◌}
use Rattle.iloc_writeable.specs.Pieces.{is_there}
use Rattle.iloc_extensions.specs.ExtensionsValue.{value_of}
use Rattle.iloc_extensions.proofs.SplitLemmas.{parts_pieces}
use Rattle.iloc_extensions.proofs.extensions_text.ExtensionsPieces.has_pieces.Goals as goal

pub returns : goal.returns
returns c =
    let parts = c.parts.ensures in
    c.has_pieces.ensures
    ∙ ap is_there (parts_pieces (value_of c.args.self.now) _ _ _ _ _ parts.others
    parts.transform parts.unicode parts.private)
