use Rattle.std.proofs.Common.{arith, append_assoc, length-set}
use Rattle.std.proofs.Math.ListN.{set}
use Rattle.std.proofs.Math.Seq.{take-append_seam}
use Rattle.std.proofs.lemmas.List.{length-map, take_more_set}
use Rattle.iloc_spec_grammar.specs.Syntax.{upper}
use Rattle.iloc_normalize.proofs.Puts.{cut_bytes, length-bytes_at, length-low, put_two}
use Rattle.iloc_normalize.proofs.data_writing.put_with_region.Goals as goal

pub returns-clause-put : goal.returns-clause-put
unfolding upper
returns-clause-put c =
    grind (
      arith,
      length-map,
      length-bytes_at,
      take-append_seam,
      cut_bytes,
      set,
      length-set,
      put_two,
      length-low,
      take_more_set,
      append_assoc,
    )
