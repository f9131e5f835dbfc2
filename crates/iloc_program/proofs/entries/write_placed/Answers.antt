use Rattle.std.proofs.Common.{◌++◌, ◌-◌, ◌≤◌, ap, ◌∙◌, take, arith}
use Rattle.std.proofs.lemmas.Result.{on_ok_weaker}
use Rattle.iloc_spec_grammar.specs.Syntax.{Text}
use Rattle.iloc_program.specs.ReplyBlock.{held}
use Rattle.iloc_program.proofs.EntryLemmas.{columns}
use Rattle.iloc_program.proofs.ShownLemmas.{at_most_sixteen, stored}
use Rattle.iloc_program.proofs.entries.write_placed.Goals as goal

pub push_columns-requires-clause-piece : goal.push_columns-requires-clause-piece
push_columns-requires-clause-piece g c =
    let f = c.args.fault.now in
    let enough : f.end - f.start ≤ c.before_marked.result = omega (arith, c.if-len-before_marked.false) in
    at_most_sixteen c.args.line.bytes.now f.start f.end c.args.line.room c.requires.within.0
    c.requires.within.1 c.before_marked.result c.escaped_in.result c.before_marked.ensures
    c.escaped_in.ensures enough

pub returns-clause-ok : goal.returns-clause-ok
returns-clause-ok g c =
    let f = c.args.fault.now in
    let enough : f.end - f.start ≤ c.before_marked.result = omega (arith, c.if-len-before_marked.false) in
    let piece = stored c.args.line.bytes.now f.start f.end c.args.line.room c.requires.within.0
    c.requires.within.1 c.before_marked.result c.escaped_in.result c.before_marked.ensures
    c.escaped_in.ensures enough in
    let stands = columns _ _ _ _ _ _ c.reason_of-count.ensures.text
    (ap (take c.short_range-range.result.1) c.to_le_bytes.ensures ∙ c.short_range-range.ensures.text)
    (ap (take (f.end - f.start)) c.as_array.ensures ∙ piece) in
    on_ok_weaker c.push_columns.result
    (λ e. e ∙ ap (λ (t : Text). held c.args.replies.now ++ t) stands) c.push_columns.ensures.ok
