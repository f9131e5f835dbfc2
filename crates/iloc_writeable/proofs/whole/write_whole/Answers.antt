use Rattle.std.proofs.Common.{◌≡◌, ℕ, List, ◌++◌, take, ap, ◌∙◌, sym, append_assoc}
use Rattle.std.proofs.lemmas.List.{take-append-drop}
use Rattle.iloc_writeable.specs.GrowthLaws.{appends_both}
use Rattle.iloc_writeable.proofs.whole.write_whole.Goals as goal

pub writes-preserved : goal.writes-preserved
writes-preserved g c =
    let so_far = c.writes.invariant in
    let rest = c.writes.rest.now in
    let taken = take c.in-Ok.count rest in
    let split : rest ≡ taken ++ c.split_at.result.1.now =
    rw c.split_at.ensures.back (sym (take-append-drop c.in-Ok.count rest)) in (
      so_far.0 ++ taken,
      appends_both _ _ _ so_far.0 taken so_far.1 c.in-Ok.ensures.bytes,
      so_far.2 ∙ ap (λ (t : List ℕ). so_far.0 ++ t) split ∙ sym (append_assoc so_far.0 taken _),
    )
