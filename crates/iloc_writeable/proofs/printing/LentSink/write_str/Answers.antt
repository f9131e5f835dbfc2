use Rattle.std.proofs.Common.{length, drop, refl, subst}
use Rattle.iloc_writeable.specs.Growth.{AddsBeginning}
use Rattle.iloc_writeable.proofs.Beginnings.{beginning-missing, Broken-beginning}
use Rattle.iloc_writeable.proofs.printing.LentSink.write_str.Goals as goal

pub returns-in-Err : goal.returns-in-Err
returns-in-Err g c =
    let text = c.args.text.now in
    let b = subst (AddsBeginning _ _) c.as_bytes.ensures.value c.in-Err.ensures.err in
    record {
      part = b.written;
      rest = drop (length b.written) text;
      cut = beginning-missing _ _ text b;
      broke = (refl, Broken-beginning _ _ text _ b);
    }
