-- The subtag of the text is looked for.
use Rattle.iloc_handles.proofs.SubtagLemmas.{has_exactly}
use Rattle.iloc_handles.proofs.subtags.has_word.Goals as goal

pub returns-in-Ok : goal.returns-in-Ok
returns-in-Ok g c =
    has_exactly g.K.WordKind.kind c.args.text.now c.in-Ok.word c.args.words.now c.is_among.result
    c.in-Ok.ensures.0
    c.in-Ok.ensures.1 c.is_among.ensures
