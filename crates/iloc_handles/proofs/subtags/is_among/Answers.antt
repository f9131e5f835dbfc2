-- A binary search finds the subtag exactly if it is there.
use Rattle.std.proofs.Common.{refl, sym}
use Rattle.iloc_word_list.proofs.SetLaws.{search_old, search_new}
use Rattle.iloc_handles.proofs.subtags.is_among.Goals as goal

pub returns-in-Ok : goal.returns-in-Ok
returns-in-Ok g c =
    let ws = c.args.words.now in
    sym (search_old ws ws c.args.word.now c.in-Ok.field-0 refl c.requires c.in-Ok.ensures.bound
    c.in-Ok.ensures.ok).present

pub returns-in-Err : goal.returns-in-Err
returns-in-Err g c =
    let ws = c.args.words.now in
    sym (search_new ws ws c.args.word.now c.in-Err.field-0 refl c.requires c.in-Err.ensures.bound
    c.in-Err.ensures.position).absent
