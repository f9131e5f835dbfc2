use Rattle.std.proofs.Common.{◌≡◌, ◌<◌, take, drop, inl, inr, arith}
use Rattle.std.proofs.Math.Logic.{∥∥₁_map}
use Rattle.iloc_pieces.specs.Marks.{closed}
use Rattle.iloc_pieces.specs.Shape.{shape_of}
use Rattle.iloc_pieces.proofs.Ends.{before, odd_shape, piece_shape}
use Rattle.iloc_pieces.proofs.Looks.{long_piece, short_piece}
use Rattle.iloc_pieces.proofs.cursor.look.Goals as goal
use Rattle.iloc_pieces.proofs.cursor.look.Goals.{then-marks-piece-ne0, else-marks-piece-ne0}

pub invariant_of-result-clause-piece : goal.invariant_of-result-clause-piece
invariant_of-result-clause-piece c = ∥∥₁_map c.requires.seen (λ s. inr (long_piece s c.if-marks-eq0.true))

pub invariant_of-result-2-clause-piece : goal.invariant_of-result-2-clause-piece
invariant_of-result-2-clause-piece c = ∥∥₁_map c.requires.seen (λ s.
    let m = c.args.marks in
    let v = take s.known (closed (take c.args.remaining (drop c.args.at c.args.window.now))) in
    let some : 0 < m.ends = omega (arith, c.if-marks-eq0.false) in
    let shape : c.if-marks-piece-ne0.shape ≡ shape_of (take (before v) v) = grind (
      arith,
      then-marks-piece-ne0,
      odd_shape,
      else-marks-piece-ne0,
      piece_shape,
    ) in
    inl (short_piece s c.if-marks-eq0.false _ shape))
