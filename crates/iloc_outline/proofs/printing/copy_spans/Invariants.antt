use Rattle.std.proofs.Common.{◌≡◌, ◌≤◌, ◌++◌, flat_map, length, take}
use Rattle.iloc_outline.specs.Printing.{span_text}
use Rattle.iloc_outline.proofs.printing.copy_spans.Given as goal

-- the text of the spans so far was written
abbrev pub invariant-loop-i : goal.invariant-loop-i
invariant-loop-i l = record {
  inside : l.end ≤ length l.to;
  copied : take l.end l.to
      ≡ take l.start l.fn.to ++ flat_map (span_text l.window) (take l.i l.held);
}
