use Rattle.std.proofs.Common.{◌≡◌, ℕ, zero, suc, ◌<◌, List, [], ◌∷◌, length, get_or, refl, sym, ap, ◌∙◌, true≢false, arith}
use Rattle.std.proofs.lemmas.List.Elements.{AllWithin-more}
use Rattle.icu_locale_core.specs.Values.{text as text_of}
use Rattle.icu_locale_core.specs.LocaleReading.{value_of}
use Rattle.example_message_catalogue.proofs.message.Goals as goal

-- an item that is there is read whatever stands for a missing one
same_item : {X : Type 0} (xs : List X) (i : ℕ) (d e : X) → i < length xs → get_or xs i d ≡ get_or xs i e
same_item [] i d e lt = absurd (omega (arith, lt))
same_item (x ∷ xs) zero d e lt = refl
same_item (x ∷ xs) (suc i) d e lt = same_item xs i d e (omega (arith, lt))

-- the entry that prints the text has the message
pub returns-then-prints-clause-found : goal.returns-then-prints-clause-found
returns-then-prints-clause-found c = (
  c.loop-entry.entry-index,
  c.entry-item.result,
  c.loop-entry-test.true,
  sym c.entry-item.is,
  (c.prints.ensures.0 c.if-prints.true, refl),
)

-- one more entry does not print it
pub loop-entry-preserved : goal.loop-entry-preserved
loop-entry-preserved c = AllWithin-more (λ e. ¬ (text_of (value_of e.0) ≡ c.args.text.now)) c.args.entries.now
    0 c.loop-entry.entry-index c.loop-entry.invariant
    (λ d h. true≢false (sym (c.prints.ensures.1 (ap (λ e. text_of (value_of e.0)) (c.entry-item.is
    ∙ same_item c.args.entries.now c.loop-entry.entry-index c.entry-item.result d c.loop-entry-test.true)
    ∙ h))
    ∙ c.if-prints.false))
