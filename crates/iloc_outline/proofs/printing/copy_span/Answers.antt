use Rattle.std.proofs.Common.{arith}
use Rattle.std.proofs.lemmas.List.{length-drop, length-take-le}
use Rattle.iloc_spec_grammar.proofs.WordsLaws.{length-lower}
use Rattle.iloc_outline.proofs.printing.copy_span.Goals as goal

pub copy_lower-requires-clause-room : goal.copy_lower-requires-clause-room
copy_lower-requires-clause-room c = grind (arith, length-lower, length-take-le, length-drop)
