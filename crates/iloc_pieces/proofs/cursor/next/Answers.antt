use Rattle.std.proofs.Common.{◌+◌, ◌-◌, take, drop, sym, subst, arith}
use Rattle.iloc_pieces.specs.Marks.{AreMarksSeen}
use Rattle.iloc_pieces.specs.declared.marks.Marks.{Marks}
use Rattle.iloc_pieces.proofs.Looks.{seen_known, not_last, next_seen, next_piece}
use Rattle.iloc_pieces.proofs.cursor.next.Goals as goal
use Rattle.iloc_pieces.proofs.cursor.next.Goals.{then-known-eq0, else-known-eq0}

pub overflow_sub-remaining : goal.overflow_sub-remaining
overflow_sub-remaining c = not_last c.args.cursor c.requires.short c.requires.more

pub marks_at-marks-requires : goal.marks_at-marks-requires
marks_at-marks-requires c = omega (arith, not_last c.args.cursor c.requires.short c.requires.more)

pub look-requires-clause-inside : goal.look-requires-clause-inside
look-requires-clause-inside c = omega (arith, not_last c.args.cursor c.requires.short c.requires.more)

pub look-requires-clause-seen : goal.look-requires-clause-seen
look-requires-clause-seen c =
    let l = c.args.cursor in
    let r = c.requires in
    let after = take (l.remaining - (l.piece_length + 1)) (drop (l.at + (l.piece_length + 1)) l.window.now) in
    let IsSeen : Marks → Type 0 = λ m. ∥ AreMarksSeen after m ∥₁ in
    elim c.if-known-eq0.branch [
      | then-known-eq0 w ↦ subst IsSeen (sym w.marks-is) ∣ seen_known w.marks_at-marks.ensures ∣₁
      | else-known-eq0 w ↦ grind (arith, next_seen)
    ]

pub returns : goal.returns
returns c =
    let e = c.look.ensures in
    next_piece c.args.cursor c.requires.short c.requires.more c.look.result e.at e.remaining e.window
