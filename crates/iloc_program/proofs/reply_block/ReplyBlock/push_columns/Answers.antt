use Rattle.std.proofs.Common.{◌≡◌, ◌-◌, ◌≤◌, [], ◌∷◌, ◌++◌, length, take, drop, ap, ◌∙◌, append_assoc, arith}
use Rattle.std.proofs.lemmas.List.{length-drop, length-take-le}
use Rattle.iloc_program.proofs.BlockLemmas.{counted}
use Rattle.iloc_program.proofs.reply_block.ReplyBlock.push_columns.Goals as goal
use Rattle.iloc_spec_grammar.specs.Syntax.{Text}

pub returns-clause-ok : goal.returns-clause-ok
returns-clause-ok g c =
    let room = c.make_room.new.self.room in
    let start = c.make_room.new.self.len in
    let r = c.as_mut_slice.result.now in
    let to = c.store-end.new.to in
    let words = take c.args.words_len c.args.words.now in
    let range = take c.args.range_len c.args.range in
    let piece = take c.args.piece_len c.args.piece in
    let same : length r ≡ length room.items = ap length c.as_mut_slice.ensures.value in
    let whole : length (take (length r - start) (drop start r)) ≡ length r - start =
    length-take-le (length r - start) (drop start r) (omega (arith, length-drop start r)) in
    let long : length to ≡ length r - start =
    omega (
      arith,
      c.store-end.ensures.room,
      c.store-third.ensures.room,
      c.store-second.ensures.room,
      c.store-first.ensures.room,
      whole,
    ) in
    let ends : c.store-end.result ≤ 73 =
    omega (
      arith,
      c.store-end.ensures.end,
      c.store-third.ensures.end,
      c.store-second.ensures.end,
      c.store-first.ensures.end,
      c.requires.words,
      c.requires.range,
      c.requires.piece,
    ) in
    let stored = counted room to start c.store-end.result (length room.items - start)
    (omega (arith, long, same)) (omega (arith, long, same, c.in_ok-make_room.ensures.room.1))
    (omega (arith, long, same, ends, c.in_ok-make_room.ensures.room.1)) in
    let text : take c.store-end.result to ≡ ((words ++ range) ++ piece) ++ 10 ∷ [] =
    c.store-end.ensures.stored
    ∙ ap (λ (t : Text). t ++ 10 ∷ []) (c.store-third.ensures.stored
    ∙ ap (λ (t : Text). t ++ piece) (c.store-second.ensures.stored
    ∙ ap (λ (t : Text). t ++ range) c.store-first.ensures.stored)) in
    let columns : ((words ++ range) ++ piece) ++ 10 ∷ [] ≡ words ++ (range ++ (piece ++ 10 ∷ [])) =
    simp append_assoc in
    rw c.as_mut_slice.ensures.value
    (stored ∙ ap (λ (t : Text). take start room.items ++ t) (text ∙ columns)
    ∙ ap (λ (t : Text). t ++ (words ++ (range ++ (piece ++ 10 ∷ [])))) c.make_room.ensures.room.0)
