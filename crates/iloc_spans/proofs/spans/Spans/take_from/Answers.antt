use Rattle.std.proofs.Common.{◌≡◌, ◌≢◌, ◌+◌, ◌-◌, ◌<◌, ◌≤◌, ℕ, List, ◌∷◌, ◌++◌, [], drop, length, take, slice_index_or, sym, ap, ◌∙◌, arith, refl}
use Rattle.std.proofs.lemmas.List.{get_or-drop, length-drop, take_all, take_more}
use Rattle.iloc_spans.specs.Group.{IsGrouped}
use Rattle.iloc_spans.specs.Inserting.{spans_in_order}
use Rattle.iloc_spans.specs.declared.inserting.Inserted.{Inserted}
use Rattle.iloc_spans.specs.declared.inserting.Inserted.TheVariants.{Put, There, Full}
use Rattle.iloc_spans.specs.declared.span.Span.{Span}
use Rattle.iloc_spans.specs.declared.span.TheConstants.{NO_SPAN}
use Rattle.iloc_spans.proofs.spans.Spans.take_from.Goals as goal

-- one span more is in order
grouped : (s : Span) (old new : List Span) (r : Inserted) → r ≢ Full → IsGrouped s old new r
    → (ss : List Span) → old ≡ spans_in_order ss → new ≡ spans_in_order (ss ++ s ∷ [])
grouped s old new Put n h ss e = (h ss e).0
grouped s old new There n h ss e = (h ss e).0
grouped s old new Full n h ss e = absurd (n refl)

-- the items from a place on, and one more
more_from : (held : List Span) (from i : ℕ) → from ≤ i → i < length held
    → take (i - from) (drop from held) ++ slice_index_or held i NO_SPAN ∷ []
    ≡ take (i + 1 - from) (drop from held)
more_from held from i l k =
    let n : from + (i - from) ≡ i = omega arith in
    ap (λ s. take (i - from) (drop from held) ++ s ∷ [])
    (ap (λ m. slice_index_or held m NO_SPAN) (sym n) ∙ sym (get_or-drop from held (i - from) NO_SPAN))
    ∙ sym (take_more (drop from held) (i - from) NO_SPAN (omega (arith, length-drop from held)))
    ∙ ap (λ m. take m (drop from held)) (omega arith)

pub loop-i-preserved : goal.loop-i-preserved
loop-i-preserved g c =
    let held = c.as_slice-held.result.now in
    grouped _ _ _ c.put.result c.in_default.not-Full c.put.ensures.put
    (take (c.loop-i.i - c.args.from) (drop c.args.from held)) c.loop-i.invariant
    ∙ ap spans_in_order (more_from held c.args.from c.loop-i.i c.loop-i.auto.i c.loop-i-test.true)

pub returns-clause-taken : goal.returns-clause-taken
returns-clause-taken g c =
    let held = c.as_slice-held.result.now in (
      c.loop-i.invariant
          ∙ ap spans_in_order (take_all (c.loop-i.i - c.args.from) (drop c.args.from held)
          (omega (arith, length-drop c.args.from held, c.loop-i-test.false)))
          ∙ ap (λ ss. spans_in_order (drop c.args.from ss)) c.as_slice-held.ensures,
      c.truncate.ensures,
    )
