use Rattle.std.proofs.Common.{refl}
use Rattle.iloc_pieces.proofs.PieceLemmas.{language_is}
use Rattle.iloc_pieces.proofs.plain.Plain.language.Goals as goal

pub returns : goal.returns
returns c = language_is c.args.self.now c.requires.words c.requires.value _ c.of_number.result
    c.requires.words.bytes refl c.of_number.ensures
