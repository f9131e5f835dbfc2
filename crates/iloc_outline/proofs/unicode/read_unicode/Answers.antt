-- Attributes and keywords up to the next block, or what is wrong.
use Rattle.std.proofs.Common.{◌≡◌, arith, false, sym, ◌∙◌}
use Rattle.iloc_spec_grammar.specs.Syntax.{is_one_byte}
use Rattle.iloc_pieces.specs.Cursor.{piece_left}
use Rattle.iloc_outline.proofs.RefusalLemmas.{full_at_block, one_held, refused_before, words_few}
use Rattle.iloc_outline.proofs.UnicodeLemmas.{unicode_single, words_alone, words_read}
use Rattle.iloc_outline.proofs.unicode.read_unicode.Goals as goal
use Rattle.iloc_outline.proofs.unicode.read_unicode.Goals.{in-Next, in_default}

pub returns-then-is_single-clause-read : goal.returns-then-is_single-clause-read
returns-then-is_single-clause-read g c = λ c' e spanned.
    unicode_single c' c.args.cursor.now c.args.cursor.now c.args.spans.now c.args.spans.now
    c.args.in_order.now
    c.args.in_order.now e
    (sym c.is_single.ensures ∙ c.if-is_single.true)

pub returns-clause-read : goal.returns-clause-read
returns-clause-read g c = λ c' e spanned.
    let long : is_one_byte (piece_left c.args.cursor.now) ≡ false =
    sym c.is_single.ensures ∙ c.if-is_single.false in
    let put = c.put.ensures.put c.if-not-put.false in
    elim c.match-read_words.branch [
      | in-Next w ↦
          rw (w.spans-is, w.in_order-is, w.cursor-is)
          (words_read c' c.args.start c.args.cursor.now e spanned long c.args.spans.now c.put.new.spans
          c.args.in_order.now put c.read_words.new.cursor w.read_fields-found.new.cursor
          c.read_words.new.spans w.read_fields-found.new.spans c.read_words.new.in_order
          w.read_fields-found.new.in_order w.read_fields-found.result c.at_block.result
          (rw w.in-Next.is at c.read_words.ensures.read)
          w.read_fields-found.ensures.read (rw (sym w.cursor-is, sym w.found-is) c.at_block.ensures))
      | in_default w ↦
          rw (w.spans-is, w.in_order-is, w.cursor-is)
          (words_alone c' c.args.start c.args.cursor.now e spanned long c.args.spans.now c.put.new.spans
          c.args.in_order.now put c.read_words.new.cursor
          c.read_words.new.spans c.read_words.new.in_order c.read_words.result c.at_block.result
          c.read_words.ensures.read w.in_default.not-Next
          (rw (sym w.cursor-is, sym w.found-is) c.at_block.ensures))
    ]

pub returns-clause-refused : goal.returns-clause-refused
returns-clause-refused g c = λ e.
    let held = one_held c.args.spans.now c.put.new.spans _ (c.put.ensures.put c.if-not-put.false) in
    elim c.match-read_words.branch [
      | in-Next w ↦
          refused_before _ c.args.spans.now c.read_words.new.spans _ _
          (omega (
            arith,
            held,
            words_few _ _ _ _ _ _ _ (rw w.in-Next.is at c.read_words.ensures.read),
          ))
          (w.read_fields-found.ensures.refused
          (full_at_block w.read_fields-found.new.cursor w.read_fields-found.result c.at_block.result
          (rw (sym w.cursor-is, sym w.found-is) c.at_block.ensures) e))
      | in_default w ↦
          refused_before _ c.args.spans.now c.put.new.spans _ _ (omega (arith, held))
          (c.read_words.ensures.refused
          (full_at_block c.read_words.new.cursor c.read_words.result c.at_block.result
          (rw (sym w.cursor-is, sym w.found-is) c.at_block.ensures) e))
    ]
