use Rattle.std.proofs.Common.{◌≡◌, List, take, arith}
use Rattle.std.specs.List.{AllZip}
use Rattle.std.proofs.lemmas.List.{length-take-le, take_all}
use Rattle.iloc_spec_grammar.specs.Syntax.{Text}
use Rattle.iloc_outline.specs.Parts.{Part}
use Rattle.iloc_outline.specs.Spans.{IsSpan, Spell}
use Rattle.iloc_spans.specs.Spans.{held_spans}
use Rattle.iloc_spans.specs.declared.span.Span.{Span}
use Rattle.iloc_spans.specs.declared.spans.Spans.{Spans}
use Rattle.iloc_spans.specs.declared.span.TheConstants.{NO_SPAN}
use Rattle.iloc_outline.proofs.PrintingLemmas.{span_room, span_short, span_some, spans_are, span_at}
use Rattle.iloc_outline.proofs.printing.copy_spans.Goals as goal

-- the spans as a slice are those parts too
spelled : (t : Text) (spans : Spans) (ps : List Part) (ss : List Span) → ss ≡ held_spans spans
    → Spell t spans ps → AllZip (IsSpan t) ss ps
spelled t spans ps ss e h = rw e h

pub copy_span-end-requires-clause-ascends : goal.copy_span-end-requires-clause-ascends
copy_span-end-requires-clause-ascends c =
    (span_at c.args.window.now c.as_slice-held.result.now c.requires.parts c.loop-i.i NO_SPAN
    (search spelled)
    c.loop-i-test.true).1.spanned.ascends

pub copy_span-end-requires-clause-inside : goal.copy_span-end-requires-clause-inside
copy_span-end-requires-clause-inside c =
    (span_at c.args.window.now c.as_slice-held.result.now c.requires.parts c.loop-i.i NO_SPAN
    (search spelled)
    c.loop-i-test.true).1.spanned.inside

pub copy_span-end-requires-clause-some : goal.copy_span-end-requires-clause-some
copy_span-end-requires-clause-some c =
    let there = span_at c.args.window.now c.as_slice-held.result.now c.requires.parts c.loop-i.i NO_SPAN
    (search spelled)
    c.loop-i-test.true in
    span_some c.args.window.now _ there.0 there.1

pub copy_span-end-requires-clause-short : goal.copy_span-end-requires-clause-short
copy_span-end-requires-clause-short c =
    let there = span_at c.args.window.now c.as_slice-held.result.now c.requires.parts c.loop-i.i NO_SPAN
    (search spelled)
    c.loop-i-test.true in
    span_short c.args.window.now _ there.0 there.1

pub copy_span-end-requires-clause-room : goal.copy_span-end-requires-clause-room
copy_span-end-requires-clause-room c =
    let h = c.loop-i.invariant in
    omega (
      arith,
      span_room c.args.window.now c.as_slice-held.result.now c.requires.parts
          (spelled c.args.window.now c.args.spans.now c.requires.parts _ c.as_slice-held.ensures
          c.requires.spell)
          (take c.args.start c.args.to.now) c.loop-i.to c.loop-i.i NO_SPAN c.loop-i.end
          c.loop-i-test.true h.inside h.copied,
      length-take-le c.args.start c.args.to.now
          (omega (arith, c.requires.fits)),
      c.requires.fits,
      c.loop-i.auto.to,
    )

pub returns-clause-copied : goal.returns-clause-copied
returns-clause-copied c = grind (arith, take_all, spans_are, spelled)
