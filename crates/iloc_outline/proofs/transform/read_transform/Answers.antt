-- An identifier and fields up to the next block, or what is wrong.
use Rattle.std.proofs.Common.{[], ◌∷◌, arith, sym, ◌∙◌}
use Rattle.iloc_outline.proofs.RefusalLemmas.{front_few, full_at_block, one_held, refused_before, words_few}
use Rattle.iloc_outline.proofs.TransformReading.{front_alone, variants_alone, variants_read}
use Rattle.iloc_outline.proofs.transform.read_transform.Goals as goal

pub returns-then-front-clause-read : goal.returns-then-front-clause-read
returns-then-front-clause-read g c = λ c' e spanned.
    let l = c.args.cursor.now in
    let front = c.read_front-front in
    front_alone c' c.args.start front.result.end l e
    (sym c.is_language.ensures ∙ c.if-not-is_language.false)
    (front.ensures.end c.args.start ((c' ∷ []) ∷ []) c.requires.follows.later spanned) c.args.spans.now
    c.put.new.spans c.args.in_order.now
    (rw c.singleton.ensures at (c.put.ensures.put c.if-not-put.false)) front.new.cursor
    (rw c.if-front.true at front.ensures.next)

pub returns-in-Next-clause-read : goal.returns-in-Next-clause-read
returns-in-Next-clause-read g c = λ c' e spanned.
    let l = c.args.cursor.now in
    let front = c.read_front-front in
    let words = c.read_words in
    let next = rw c.if-front.false at front.ensures.next in
    variants_read c' c.args.start front.result.end l e
    (sym c.is_language.ensures ∙ c.if-not-is_language.false)
    (front.ensures.end c.args.start ((c' ∷ []) ∷ []) c.requires.follows.later spanned) c.args.spans.now
    c.put.new.spans c.args.in_order.now
    (rw c.singleton.ensures at (c.put.ensures.put c.if-not-put.false))
    front.new.cursor next.0 next.1 words.new.cursor c.read_fields.new.cursor words.new.spans
    c.read_fields.new.spans words.new.in_order c.read_fields.new.in_order
    c.read_fields.result c.at_block.result
    (rw c.in-Next.is at words.ensures.read)
    c.read_fields.ensures.read c.at_block.ensures

pub returns-in_default-clause-read : goal.returns-in_default-clause-read
returns-in_default-clause-read g c = λ c' e spanned.
    let l = c.args.cursor.now in
    let front = c.read_front-front in
    let words = c.read_words in
    let next = rw c.if-front.false at front.ensures.next in
    variants_alone c' c.args.start front.result.end l e
    (sym c.is_language.ensures ∙ c.if-not-is_language.false)
    (front.ensures.end c.args.start ((c' ∷ []) ∷ []) c.requires.follows.later spanned) c.args.spans.now
    c.put.new.spans c.args.in_order.now
    (rw c.singleton.ensures at (c.put.ensures.put c.if-not-put.false))
    front.new.cursor next.0 next.1 words.new.cursor words.new.spans words.new.in_order words.result
    words.ensures.read c.in_default.not-Next

pub returns-in-Next-clause-refused : goal.returns-in-Next-clause-refused
returns-in-Next-clause-refused g c = λ e.
    let full = full_at_block c.read_fields.new.cursor c.read_fields.result c.at_block.result
    c.at_block.ensures e in
    let front = c.read_front-front in
    refused_before _ c.args.spans.now c.read_words.new.spans _ _
    (omega (
      arith,
      one_held c.args.spans.now c.put.new.spans _ (c.put.ensures.put c.if-not-put.false),
      front_few c.args.cursor.now front.new.cursor (rw c.if-front.false at front.ensures.next),
      words_few _ _ _ _ _ _ _ (rw c.in-Next.is at c.read_words.ensures.read),
    ))
    (c.read_fields.ensures.refused full)

pub returns-in_default-clause-refused : goal.returns-in_default-clause-refused
returns-in_default-clause-refused g c = λ e.
    let front = c.read_front-front in
    refused_before _ c.args.spans.now c.put.new.spans _ _
    (omega (
      arith,
      one_held c.args.spans.now c.put.new.spans _ (c.put.ensures.put c.if-not-put.false),
      front_few c.args.cursor.now front.new.cursor (rw c.if-front.false at front.ensures.next),
    ))
    (c.read_words.ensures.refused e)
