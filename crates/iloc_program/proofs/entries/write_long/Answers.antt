use Rattle.std.proofs.Common.{[], ◌∷◌, ◌++◌, ◌-◌, sym, ap, ◌∙◌, take, drop}
use Rattle.std.proofs.lemmas.Result.{on_ok_weaker}
use Rattle.iloc_spec_grammar.specs.Syntax.{Text}
use Rattle.iloc_pieces.specs.Window.{text_in}
use Rattle.iloc_program.specs.Listing.{faulty_piece, range_column, shown}
use Rattle.iloc_program.specs.ReplyBlock.{held}
use Rattle.iloc_program.proofs.EntryLemmas.{one_by_one}
use Rattle.iloc_program.proofs.ShownLemmas.{in_window}
use Rattle.iloc_program.proofs.entries.write_long.Goals as goal

pub returns-clause-ok : goal.returns-clause-ok
returns-clause-ok g c =
    let old = held c.args.replies.now in
    let words = c.args.words.now in
    let f = c.args.fault.now in
    let piece = in_window c.args.line.bytes.now f.start f.end c.args.line.room c.requires.0 c.requires.1 in
    on_ok_weaker c.push.result
    (λ e. e
    ∙ ap (λ (t : Text). t ++ 10 ∷ [])
    (c.in_ok-write_shown.ensures.ok
    ∙ ap (λ (t : Text). t ++ shown (take (f.end - f.start) (drop f.start c.args.line.bytes.now)))
    (c.in_ok-write_range.ensures.ok
    ∙ ap (λ (t : Text). t ++ range_column f.start f.end) c.in_ok-extend_from_slice.ensures.ok)
    ∙ ap (λ (t : Text). ((old ++ words) ++ range_column f.start f.end) ++ shown t) (sym piece))
    ∙ one_by_one old words (range_column f.start f.end) (shown (faulty_piece (text_in c.args.line) f)))
    c.push.ensures.ok
