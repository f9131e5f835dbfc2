use Rattle.std.proofs.Common.{◌<◌, length}
use Rattle.iloc_program.specs.Lines.{IsOneLine}
use Rattle.iloc_program.proofs.ListedLemmas.{Stands}
use Rattle.iloc_program.proofs.numbered.run_numbered_in.Given as goal

abbrev pub invariant-reads : goal.invariant-reads
invariant-reads g l = record {
  one_line : IsOneLine l.pending.items;
  room : 0 < length l.block;
  stands : Stands (g.L.Lists.is_entry l.fn.listing) l.fn.first (g.R.Read.remaining l.fn.reader)
      (g.R.Read.remaining l.reader)
      (g.W.Write.contents l.fn.writer) (g.W.Write.contents l.writer) l.pending.items l.number;
}
