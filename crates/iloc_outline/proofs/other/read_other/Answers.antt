-- Pieces of two to eight bytes up to the next block, of which one is a subtag.
use Rattle.std.proofs.Common.{arith, ◌≡◌, true, sym, ap, ◌∙◌}
use Rattle.iloc_spec_grammar.specs.Syntax.{is_other_singleton}
use Rattle.iloc_pieces.specs.Cursor.{IsEnd, piece_left}
use Rattle.iloc_pieces.proofs.CursorLemmas.{between_short, last_piece, past_none}
use Rattle.iloc_outline.proofs.OtherLemmas.{IsBetween, PassesOneMore, end_bad, end_put, more_odd, more_subtag, next_bad, next_odd, next_put, other_next, put_at}
use Rattle.iloc_outline.proofs.other.read_other.Given.{Over}
use Rattle.iloc_outline.proofs.other.read_other.Goals as goal
use Rattle.iloc_outline.proofs.other.read_other.Goals.{then-is_subtag, else-is_subtag, then-not-is_good-2-via-then-not-is_good-2, then-not-is_good-2-via-else-not-is_good-2+then-not-is_single, After-is_last}

between : (g : Over) (c : After-is_last g) → IsBetween (piece_left c.pieces.cursor)
between g c = sym c.is_between.ensures ∙ c.pieces-test.true

-- the piece is one more
one_more : (g : Over) (c : After-is_last g)
    → PassesOneMore c.args.cursor.now c.pieces.cursor c.if-is_subtag.is_good c.if-is_subtag.edited
one_more g c = elim c.if-is_subtag.branch [
  | then-is_subtag w ↦
      rw (w.is_good-is, w.edited-is)
      (more_subtag c.args.cursor.now c.pieces.cursor c.pieces.is_good c.pieces.edited
      c.pieces.invariant.passed
      (between g c) (sym c.is_subtag.ensures ∙ w.if-is_subtag.true))
  | else-is_subtag w ↦
      rw (w.is_good-is, w.edited-is)
      (more_odd c.args.cursor.now c.pieces.cursor c.pieces.is_good c.pieces.edited c.pieces.invariant.passed
      (between g c)
      (sym c.is_subtag.ensures ∙ w.if-is_subtag.false))
]

pub pieces-init : goal.pieces-init
pieces-init g c = search past_none

pub advance-requires-clause-short : goal.advance-requires-clause-short
advance-requires-clause-short g c = grind (arith, between_short)

pub pieces-preserved : goal.pieces-preserved
pieces-preserved g c = search (other_next, one_more, between)

ended : (g : Over) (c : After-is_last g) → c.is_last.result ≡ true → IsEnd c.pieces.cursor
ended g c last = grind (arith, last_piece, between_short, between)

pub returns-then-not-is_good-clause-read : goal.returns-then-not-is_good-clause-read
returns-then-not-is_good-clause-read g c = λ c' e spanned.
    let after = (goal.at.returns-then-not-is_good-clause-read g c).After-is_last in
    end_bad c' c.args.cursor.now (ap is_other_singleton e ∙ c.requires.other) c.pieces.cursor
    c.if-is_subtag.is_good
    c.if-is_subtag.edited (one_more g after)
    (ended g after c.if-is_last.true) c.args.spans.now c.args.spans.now c.args.in_order.now
    c.args.in_order.now
    c.if-not-is_good.true

pub returns-then-is_last-clause-read : goal.returns-then-is_last-clause-read
returns-then-is_last-clause-read g c = λ c' e spanned.
    let after = (goal.at.returns-then-is_last-clause-read g c).After-is_last in
    end_put c' c.args.cursor.now (ap is_other_singleton e ∙ c.requires.other) c.pieces.cursor
    c.if-is_subtag.is_good
    c.if-is_subtag.edited (one_more g after)
    (ended g after c.if-is_last.true) c.args.start c.args.spans.now c.put_other.new.spans c.args.in_order.now
    c.put_other.new.in_order c.put_other.result
    c.if-not-is_good.false c.requires.follows.later spanned
    (search put_at)

pub returns-then-not-is_good-2-clause-read : goal.returns-then-not-is_good-2-clause-read
returns-then-not-is_good-2-clause-read g c = λ c' e spanned.
    let other = ap is_other_singleton e ∙ c.requires.other in
    let odd = sym c.is_between.ensures ∙ c.pieces-test.false in
    let spans = c.args.spans.now in
    let o = c.args.in_order.now in
    elim c.then-not-is_good-2.branch [
      | then-not-is_good-2-via-then-not-is_good-2 w ↦
          search next_bad
      | then-not-is_good-2-via-else-not-is_good-2+then-not-is_single w ↦
          next_odd c' c.args.cursor.now other c.pieces.cursor c.pieces.is_good c.pieces.edited
          c.pieces.invariant.passed
          spans spans o o odd
          (sym w.is_single.ensures ∙ w.if-not-is_single.true)
    ]

pub returns-clause-read : goal.returns-clause-read
returns-clause-read g c = λ c' e spanned.
    next_put c' c.args.cursor.now (ap is_other_singleton e ∙ c.requires.other) c.pieces.cursor
    c.pieces.is_good
    c.pieces.edited c.pieces.invariant.passed c.args.start
    c.args.spans.now c.put_other-2.new.spans c.args.in_order.now c.put_other-2.new.in_order
    c.put_other-2.result
    (sym c.is_single.ensures ∙ c.if-not-is_single.false) c.if-not-is_good-2.false
    c.requires.follows.later spanned
    (search put_at)
