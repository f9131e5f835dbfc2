use Rattle.std.proofs.Common.{sym, subst, slice_index}
use Rattle.iloc_pieces.specs.Cursor.{piece_left}
use Rattle.iloc_normalize.specs.declared.Mode.{Mode}
use Rattle.iloc_faults.specs.Next.{block_next}
use Rattle.iloc_faults.specs.States.{IsPieceRead, IsRead}
use Rattle.iloc_faults.proofs.step.read_singleton.Goals as goal

pub returns-in-Locale : goal.returns-in-Locale
returns-in-Locale c vs seen h =
    subst (λ (m : Mode). IsPieceRead m c.args.at
    (block_next m c.args.state.part seen (slice_index (piece_left c.args.at) 0)) c.read_block.result)
    (sym c.in-Locale.is)
    (c.read_block.ensures vs seen
    (subst (λ (m : Mode). IsRead m c.args.state c.args.at vs seen) c.in-Locale.is h))

pub returns-in-Data : goal.returns-in-Data
returns-in-Data c vs seen h =
    subst (λ (m : Mode). IsPieceRead m c.args.at
    (block_next m c.args.state.part seen (slice_index (piece_left c.args.at) 0)) c.read_data_block.result)
    (sym c.in-Data.is)
    (c.read_data_block.ensures vs seen
    (subst (λ (m : Mode). IsRead m c.args.state c.args.at vs seen) c.in-Data.is h))
