use Rattle.std.proofs.Common.{◌≡◌, ◌-◌, [], ◌∷◌, ◌++◌, length, take, drop, ap, ◌∙◌, arith, append_assoc}
use Rattle.std.proofs.lemmas.List.{length-drop, length-take-le}
use Rattle.iloc_program.proofs.BlockLemmas.{counted}
use Rattle.iloc_program.proofs.reply_block.ReplyBlock.push_answered.Goals as goal
use Rattle.iloc_spec_grammar.specs.Syntax.{Text}

pub returns-in-Normal-clause-ok : goal.returns-in-Normal-clause-ok
returns-in-Normal-clause-ok g c =
    let room = c.make_room.new.self.room in
    let start = c.make_room.new.self.len in
    let r = c.as_mut_slice.result.now in
    let to = c.write_normal-written.new.to in
    let n = c.in-Normal.count in
    let w = c.in-Normal.ensures.written in
    let after = rw c.as_mut_slice.ensures.value at c.put.ensures.held in
    let same : length r ≡ length room.items = ap length c.as_mut_slice.ensures.value in
    let whole : length (take (length r - start) (drop start r)) ≡ length r - start =
    length-take-le (length r - start) (drop start r) (omega (arith, length-drop start r)) in
    let long : length to ≡ length r - start = omega (arith, c.write_normal-written.auto.to, whole) in
    let stored = counted room to start n (length room.items - start) (omega (arith, long, same))
    (omega (arith, long, same, c.in_ok-make_room.ensures.room.1)) (omega (arith, w.0, w.1)) in (
      take n to,
      w.2,
      after ∙ ap (λ (t : Text). t ++ 10 ∷ []) stored
          ∙ append_assoc (take start room.items) (take n to) (10 ∷ [])
          ∙ ap (λ (t : Text). t ++ (take n to ++ 10 ∷ [])) c.make_room.ensures.room.0,
    )
