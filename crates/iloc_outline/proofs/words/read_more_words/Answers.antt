use Rattle.std.proofs.Common.{arith, rules, ◌≡◌, ◌≢◌, ◌++◌, length, take, drop, ap, ◌∙◌, sym, subst, inl, inr, refl}
use Rattle.std.specs.Prelude.{⊤}
use denote.Enum.Bare.{same_false, same_true}
use Rattle.iloc_spans.specs.contracts.span.Role.{the_type}
use Rattle.iloc_spans.specs.Group.{group_spans}
use Rattle.iloc_spans.specs.Inserting.{spans_in_order}
use Rattle.iloc_spans.specs.Spans.{held_spans}
use Rattle.iloc_spans.specs.declared.span.Role.{Role}
use Rattle.iloc_spans.specs.declared.inserting.Inserted.{Inserted}
use Rattle.iloc_spans.specs.declared.inserting.Inserted.TheVariants.{Put, There, Full}
use Rattle.iloc_outline.proofs.GroupSteps.{grouped_put_from, walks_out}
use Rattle.iloc_memory.proofs.Within.{within_more}
use Rattle.iloc_spans.proofs.Arranging.{length-arranged}
use Rattle.std.proofs.lemmas.List.{length-drop, length-take-le}
use Rattle.iloc_outline.proofs.RefusalLemmas.{refused_before}
use Rattle.iloc_outline.proofs.WordLemmas.{length-pieces_of}
use Rattle.iloc_outline.proofs.RoleLemmas.{short_kind}
use Rattle.iloc_spans.proofs.HeldLemmas.{length-held}
use Rattle.iloc_outline.proofs.WordsInOrder.{IsKept, walks_end, walks_full, walks_more, walks_past, walks_repeat}
use Rattle.iloc_outline.proofs.words.read_more_words.Goals as goal
use Rattle.iloc_outline.proofs.words.read_more_words.Goals.{in-Put, in-There+else-eq}

has_room : Inserted → Type 0
has_room Full = ⊥
has_room _ = ⊤

there_full : There ≡ Full → ⊥
unfolding has_room
there_full e = subst has_room e tt

put_full : Put ≡ Full → ⊥
unfolding has_room
put_full e = subst has_room e tt

not_full : (r : Role) (i : Inserted) → IsKept r i → i ≢ Full
not_full r Put may e = put_full e
not_full r There may e = there_full e
not_full r Full may e = grind (arith, put_full, there_full)

pub returns-in_default-clause-read : goal.returns-in_default-clause-read
returns-in_default-clause-read g c = search walks_full

pub words-init : goal.words-init
words-init g c =
    let held = held_spans c.args.spans.now in
    let taken = c.in-Some.ensures.taken in
    record {
      later = c.requires.later;
      walks = λ first old last o n is w.
          let long = sym (length-held old ∙ is) in
          let out = walks_out _ _ _ _ _ _ _ _ w (held_spans c.take_from.new.self)
          (group_spans c.in-Some.group)
          (taken.1 ∙ ap (λ k. take k held) long)
          (taken.0 ∙ ap (λ k. spans_in_order (drop k held)) long) in
          (out.0, (last, out.1));
      few = omega (
        arith,
        ap length taken.0,
        ap length taken.1,
        length-arranged (λ s. s.word) (drop c.args.from held),
        length-drop c.args.from held,
        c.requires.from,
        length-held c.args.spans.now,
        length-take-le c.args.from held (omega (arith, c.requires.from, length-held c.args.spans.now)),
      );
    }

pub returns-then-eq-clause-read : goal.returns-then-eq-clause-read
returns-then-eq-clause-read g c = λ first old last o n is w.
    let h = c.words.invariant.walks first old last o n is w in
    let F = held_spans c.words.spans in
    let word = sym c.fits.ensures ∙ c.words-test.true in
    let put = rw c.span_of.ensures at (grouped_put_from old.count c.span_of.result F
    (group_spans c.words.group) (group_spans c.put.new.self)
    h.1.0 c.put.result (ap length h.0 ∙ length-held old) (λ f. there_full (sym c.in-There.is ∙ f))
    c.put.ensures.put) in (
      same_true the_type (search rules) _ _ (sym c.eq.ensures ∙ c.if-eq.true),
      walks_repeat _ _ _ old _ _ _ _ h.1.1 c.requires.role word (F ++ group_spans c.put.new.self) _ _ _ refl
          c.put.result put c.in-There.is,
    )

pub returns-in-Full-clause-read : goal.returns-in-Full-clause-read
returns-in-Full-clause-read g c = search walks_full

pub returns-then-is_last-clause-read : goal.returns-then-is_last-clause-read
returns-then-is_last-clause-read g c = λ first old last o n is w.
    let may : IsKept c.args.role c.put.result = elim c.match-put.branch [
      | in-Put b ↦ inl b.in-Put.is
      | in-There+else-eq b ↦ inr (b.in-There.is, same_false the_type _ _ (sym b.eq.ensures ∙ b.if-eq.false))
    ] in
    let h = c.words.invariant.walks first old last o n is w in
    let F = held_spans c.words.spans in
    let word = sym c.fits.ensures ∙ c.words-test.true in
    let put = rw c.span_of.ensures at (grouped_put_from old.count c.span_of.result F
    (group_spans c.words.group) (group_spans c.put.new.self)
    h.1.0 c.put.result (ap length h.0 ∙ length-held old) (not_full c.args.role c.put.result may)
    c.put.ensures.put) in
    elim c.put_group.ensures.put [
      | inl f ↦ rw f (walks_full _ _ _ old _ _ _ _ w c.requires.many)
      | inr b ↦
          rw b.0 (walks_end _ _ _ old _ _ _ _ h.1.1 c.requires.role word
          (F ++ group_spans c.put.new.self) _ _ _ refl
          c.put.result put may c.put_group.new.spans (sym b.1) (c.is_last.ensures.0 c.if-is_last.true))
    ]

pub advance-requires-clause-short : goal.advance-requires-clause-short
advance-requires-clause-short g c = grind (arith, short_kind)

pub words-preserved : goal.words-preserved
words-preserved g c = record {
  later = c.advance.ensures.later;
  walks = λ first old last o n is w.
      let may : IsKept c.args.role c.put.result = elim c.match-put.branch [
        | in-Put b ↦ inl b.in-Put.is
        | in-There+else-eq b ↦
            inr (b.in-There.is, same_false the_type _ _ (sym b.eq.ensures ∙ b.if-eq.false))
      ] in
      let h = c.words.invariant.walks first old last o n is w in
      let F = held_spans c.words.spans in
      let word = sym c.fits.ensures ∙ c.words-test.true in
      let put = rw c.span_of.ensures at (grouped_put_from old.count c.span_of.result F
      (group_spans c.words.group) (group_spans c.put.new.self)
      h.1.0 c.put.result (ap length h.0 ∙ length-held old) (not_full c.args.role c.put.result may)
      c.put.ensures.put) in (
        h.0,
        (
          _,
          walks_more _ _ _ old _ _ _ _ h.1.1 c.requires.role word (F ++ group_spans c.put.new.self) _ _ _ refl
              c.put.result put may c.advance.new.cursor c.advance.ensures,
        ),
      );
  few = omega (arith, c.words.invariant.few, c.put.ensures.few, ap length c.advance.ensures.pieces);
}

pub returns-clause-read : goal.returns-clause-read
returns-clause-read g c = λ first old last o n is w.
    let h = c.words.invariant.walks first old last o n is w in
    let none = sym c.fits.ensures ∙ c.words-test.false in
    elim c.put_group-2.ensures.put [
      | inl f ↦
          rw f (walks_full _ _ _ old _ _ _ _ w c.requires.many)
      | inr b ↦
          rw b.0 (
            h.1.1.words,
            h.1.1.past,
            none,
            walks_past _ _ _ old _ _ _ _ h.1.1 c.put_group-2.new.spans (sym b.1) none,
          )
    ]

pub returns-then-is_last-clause-refused : goal.returns-then-is_last-clause-refused
returns-then-is_last-clause-refused g c = λ e.
    refused_before _ c.args.spans.now c.words.spans _ _
    (omega (arith, c.words.invariant.few, c.put.ensures.few, length-pieces_of c.words.cursor))
    (c.put_group.ensures.refused (λ n. cc))

pub returns-clause-refused : goal.returns-clause-refused
returns-clause-refused g c = λ e.
    refused_before _ c.args.spans.now c.words.spans _ _ (omega (arith, c.words.invariant.few))
    (c.put_group-2.ensures.refused (λ n. cc))

pub returns-in-Full-clause-refused : goal.returns-in-Full-clause-refused
returns-in-Full-clause-refused g c = λ e.
    within_more _ _ _ (omega (arith, c.requires.many)) (c.put.ensures.refused c.in-Full.is)
