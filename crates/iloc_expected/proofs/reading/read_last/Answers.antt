use Rattle.std.proofs.Common.{arith}
use Rattle.iloc_faults.proofs.Bits.{cut_bytes}
use Rattle.iloc_expected.proofs.Ending.{again_bytes, read_again, none_again, some_again}
use Rattle.iloc_expected.proofs.reading.read_last.Goals as goal

pub read_pieces-requires : goal.read_pieces-requires
read_pieces-requires g c = grind (arith, again_bytes, cut_bytes, read_again)

pub returns-in-Some : goal.returns-in-Some
returns-in-Some g c ps h =
    let short = c.requires.short in
    let bytes = again_bytes c.args.at c.cursor_in.result _ c.with_hyphen-bytes.result short
    (cut_bytes c.args.at short) c.cursor_in.ensures.rest c.with_hyphen-bytes.ensures in
    let x = c.in-Some.ensures ps (read_again c.args.at c.cursor_in.result short c.requires.last bytes h) in
    some_again c.args.at c.cursor_in.result short c.requires.last bytes c.args.mode ps c.in-Some.all
    c.in-Some.field-0-1 x.0 x.1

pub returns-in-None : goal.returns-in-None
returns-in-None g c ps h =
    let short = c.requires.short in
    let bytes = again_bytes c.args.at c.cursor_in.result _ c.with_hyphen-bytes.result short
    (cut_bytes c.args.at short) c.cursor_in.ensures.rest c.with_hyphen-bytes.ensures in
    none_again c.args.at c.cursor_in.result short c.requires.last bytes c.args.mode ps
    (c.in-None.ensures ps (read_again c.args.at c.cursor_in.result short c.requires.last bytes h))
