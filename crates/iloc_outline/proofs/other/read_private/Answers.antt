-- Private subtags up to the end, one at least.
use Rattle.std.proofs.Common.{arith, ◌+◌, false, sym, ◌∙◌}
use Rattle.iloc_spec_grammar.specs.Syntax.{PrivateSubtag, IsWord}
use Rattle.iloc_pieces.specs.Cursor.{IsEnd, piece_left}
use Rattle.iloc_outline.specs.Reading.{block_span}
use Rattle.iloc_spans.specs.declared.span.Span.{Span}
use Rattle.iloc_pieces.proofs.CursorLemmas.{last_piece, past_none, short_private}
use Rattle.iloc_outline.proofs.OtherLemmas.{private_end, private_next, private_odd}
use Rattle.iloc_outline.proofs.other.read_private.Goals as goal

pub words-init : goal.words-init
words-init g c = search past_none

pub returns-then-is_last-clause-read : goal.returns-then-is_last-clause-read
returns-then-is_last-clause-read g c = λ c' e spanned o.
    let word : IsWord PrivateSubtag (piece_left c.words.cursor) =
    sym c.is_private.ensures ∙ c.words-test.true in
    let end : IsEnd c.words.cursor =
    grind (arith, last_piece, short_private) in
    let span : Span = block_span 255 c.args.start (c.words.cursor.at + c.words.cursor.piece_length) false in
    private_end c' c.args.start c.args.cursor.now c.words.cursor c.args.spans.now c.put.new.spans o e
    c.requires.follows.later
    spanned c.words.invariant.passed word end
    (grind arith)

pub advance-requires-clause-short : goal.advance-requires-clause-short
advance-requires-clause-short g c = grind (arith, short_private)

pub words-preserved : goal.words-preserved
words-preserved g c = grind (arith, private_next)

pub returns-clause-read : goal.returns-clause-read
returns-clause-read g c = λ c' e spanned o.
    private_odd c' c.args.cursor.now c.words.cursor c.args.spans.now c.args.spans.now o e
    c.words.invariant.passed
    (sym c.is_private.ensures ∙ c.words-test.false)
