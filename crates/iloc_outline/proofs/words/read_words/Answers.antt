use Rattle.std.proofs.Common.{length, ap, rules, ◌∙◌, sym, arith, inl, inr, refl}
use denote.Enum.Bare.{same_false, same_true}
use Rattle.iloc_spans.specs.contracts.span.Role.{the_type}
use Rattle.iloc_spans.specs.Spans.{held_spans}
use Rattle.iloc_outline.proofs.GatherLemmas.{gathers_from, put_full}
use Rattle.iloc_outline.proofs.RefusalLemmas.{refused_before}
use Rattle.iloc_outline.proofs.RoleLemmas.{short_kind}
use Rattle.iloc_spans.proofs.HeldLemmas.{length-held}
use Rattle.iloc_outline.proofs.WordsInOrder.{IsKept, walks_end, walks_few, walks_more, walks_none, walks_past, walks_repeat}
use Rattle.iloc_outline.proofs.words.read_words.Goals as goal
use Rattle.iloc_outline.proofs.words.read_words.Goals.{in-Put, in-There+else-eq}

pub words-init : goal.words-init
words-init g c = search walks_none

pub span_of-span-requires-clause-later : goal.span_of-span-requires-clause-later
span_of-span-requires-clause-later g c = c.words.invariant.past.later

pub returns-in-Full-clause-read : goal.returns-in-Full-clause-read
returns-in-Full-clause-read g c =
    c.read_words.ensures.read c.args.cursor.now c.args.spans.now c.words.last c.args.in_order.now
    c.words.in_order refl
    (rw (put_full _ _ _ _ _ _ _ _ c.put_from.result c.in-Full.is c.put_from.ensures.put) c.words.invariant)

pub returns-in-Full-clause-refused : goal.returns-in-Full-clause-refused
returns-in-Full-clause-refused g c = λ e.
    let same = put_full _ _ _ _ _ _ _ _ c.put_from.result c.in-Full.is c.put_from.ensures.put in
    refused_before _ c.args.spans.now c.put_from.new.spans _ _
    (omega (
      arith,
      ap length same,
      walks_few _ _ _ c.args.spans.now _ _ _ _ c.words.invariant,
    ))
    (c.read_words.ensures.refused e)

pub put_from-requires : goal.put_from-requires
put_from-requires g c =
    omega (
      arith,
      gathers_from _ _ _ _ _ _ _ c.words.invariant.gathers,
      length-held c.args.spans.now,
      length-held c.words.spans,
    )

pub returns-then-eq-clause-read : goal.returns-then-eq-clause-read
returns-then-eq-clause-read g c =
    let word = sym c.fits.ensures ∙ c.words-test.true in
    let put = rw c.span_of-span.ensures at c.put_from.ensures.put in (
      same_true the_type (search rules) _ _ (sym c.eq.ensures ∙ c.if-eq.true),
      walks_repeat _ _ _ c.args.spans.now _ _ _ _ c.words.invariant c.requires.role word
          (held_spans c.put_from.new.spans) _ _ _
          refl c.put_from.result put c.in-There.is,
    )

pub returns-then-is_last-clause-read : goal.returns-then-is_last-clause-read
returns-then-is_last-clause-read g c =
    let word = sym c.fits.ensures ∙ c.words-test.true in
    let put = rw c.span_of-span.ensures at c.put_from.ensures.put in
    let may : IsKept c.args.role c.put_from.result = elim c.match-put_from.branch [
      | in-Put b ↦ inl b.in-Put.is
      | in-There+else-eq b ↦ inr (b.in-There.is, same_false the_type _ _ (sym b.eq.ensures ∙ b.if-eq.false))
    ] in
    walks_end _ _ _ c.args.spans.now _ _ _ _ c.words.invariant c.requires.role word
    (held_spans c.put_from.new.spans) _ _ _
    refl c.put_from.result put may c.put_from.new.spans refl (c.is_last.ensures.0 c.if-is_last.true)

pub advance-requires-clause-short : goal.advance-requires-clause-short
advance-requires-clause-short g c = grind (arith, short_kind)

pub words-preserved : goal.words-preserved
words-preserved g c =
    let word = sym c.fits.ensures ∙ c.words-test.true in
    let put = rw c.span_of-span.ensures at c.put_from.ensures.put in
    let may : IsKept c.args.role c.put_from.result = elim c.match-put_from.branch [
      | in-Put b ↦ inl b.in-Put.is
      | in-There+else-eq b ↦ inr (b.in-There.is, same_false the_type _ _ (sym b.eq.ensures ∙ b.if-eq.false))
    ] in
    walks_more _ _ _ c.args.spans.now _ _ _ _ c.words.invariant c.requires.role word
    (held_spans c.put_from.new.spans) _ _ _
    refl c.put_from.result put may c.advance.new.cursor c.advance.ensures

pub returns-clause-read : goal.returns-clause-read
returns-clause-read g c =
    let w = c.words.invariant in
    let none = sym c.fits.ensures ∙ c.words-test.false in
    (w.words, w.past, none, walks_past _ _ _ c.args.spans.now _ _ _ _ w c.words.spans refl none)
