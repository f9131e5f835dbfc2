-- Three numbers stand for each piece.
use Rattle.std.proofs.Common.{◌≡◌, ◌*◌, ℕ, length, min, refl, ap, ◌∙◌, arith}
use Rattle.locale_web.specs.Kinds.{parts_of, rows_of}
use Rattle.locale_web.proofs.Walking.{length_rows_of}
use Rattle.locale_web.proofs.LocaleLemmas.{min_saturated}
use Rattle.locale_web.proofs.parts.hand_out_rows.Goals as goal

pub returns-then-wanted-table : goal.returns-then-wanted-table
returns-then-wanted-table c M h =
    let count = c.count_pieces.ensures M h in
    let long = length_rows_of (parts_of M) in
    let same : c.count_pieces.result * 3 ≡ length (rows_of (parts_of M)) = omega arith in (
      omega (arith, c.saturating_mul-wanted.ensures),
      c.saturating_mul-wanted.ensures
          ∙ ap (λ (n : ℕ). min n 18446744073709551615) same ∙ min_saturated (length (rows_of (parts_of M))),
      refl,
    )

pub write_rows-requires-clause-room : goal.write_rows-requires-clause-room
write_rows-requires-clause-room c M h =
    let count = c.count_pieces.ensures M h in
    let long = length_rows_of (parts_of M) in
    omega (arith, c.saturating_mul-wanted.ensures)

pub returns : goal.returns
returns c M h =
    let count = c.count_pieces.ensures M h in
    let long = length_rows_of (parts_of M) in (
      omega (arith, c.saturating_mul-wanted.ensures),
      omega (arith, c.saturating_mul-wanted.ensures),
      c.write_rows.ensures M h,
    )
