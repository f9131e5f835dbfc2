-- Parts that are put one after another, each where it belongs.
use Rattle.std.proofs.Common.{◌≡◌, ℕ, ◌+◌, ◌<◌, ◌≤◌, Bool, true, false, List, [], ◌∷◌, ◌++◌, length, map, flat_map, refl, ap, arith, append_assoc, append-nil, length-append, inl, inr, true≢false}
use Rattle.std.specs.List.{AllByRecursion, AllZip}
use Rattle.std.specs.Ordering.{nat_cmp}
use Rattle.std.proofs.lemmas.List.{map-append}
use Rattle.std.proofs.lemmas.List.Concat.{flat_map-append}
use Rattle.std.proofs.lemmas.Slice.Zip.{AllZip-long}
use Rattle.iloc_spec_grammar.specs.Syntax.{Text, IsAmong, lower}
use Rattle.iloc_spec_grammar.proofs.ReadBack.{all_append}
use Rattle.iloc_spec_grammar.proofs.ValuesLaws.{all_weaker}
use Rattle.iloc_outline.specs.Gathering.{Gathers, pieces_in}
use Rattle.iloc_spans.specs.Inserting.{IsPutFrom, spans_in_order}
use Rattle.iloc_outline.specs.Parts.{Part, in_order, printed_part}
use Rattle.iloc_outline.specs.Reading.{Puts}
use Rattle.iloc_outline.specs.Spans.{IsSpan}
use Rattle.iloc_spans.specs.Spans.{held_spans}
use Rattle.iloc_spans.specs.declared.inserting.Inserted.{Inserted}
use Rattle.iloc_spans.specs.declared.inserting.Inserted.TheVariants.{Put, There, Full}
use Rattle.iloc_spans.specs.declared.span.Span.{Span}
use Rattle.iloc_spans.specs.declared.spans.Spans.{Spans}
use Rattle.iloc_spans.proofs.Arranging.{among_less, arranged_behind, length-arranged}
use Rattle.iloc_outline.proofs.SpansLemmas.{zip_append, zip_arranged}

-- none
pub gathers_none : (t : Text) (s : List Span) (last : ℕ) (o : Bool) → Gathers t [] s s last o o
gathers_none t s last o = grind (arith, append-nil)

-- spans have the numbers of their parts
spans_within : (t : Text) (k : ℕ) (ss : List Span) (ps : List Part) → AllZip (IsSpan t) ss ps
    → AllByRecursion (λ p. p.word < k) ps → AllByRecursion (λ s. s.word < k) ss
spans_within t k [] ps h a = tt
spans_within t k (s ∷ ss) [] h a = absurd h
spans_within t k (s ∷ ss) (p ∷ ps) h a = grind (arith, spans_within t k ss ps h.1 a.1)

numbers : (t : Text) (ss : List Span) (ps : List Part) → AllZip (IsSpan t) ss ps
    → map (λ s. s.word) ss ≡ map (λ p. p.word) ps
numbers t [] [] h = refl
numbers t [] (p ∷ ps) h = absurd h
numbers t (s ∷ ss) [] h = absurd h
numbers t (s ∷ ss) (p ∷ ps) h = λ j. h.0.word j ∷ numbers t ss ps h.1 j

module _ (t : Text) (ps : List Part) (old mid : List Span) (last : ℕ) (o n : Bool)
    (g : Gathers t ps old mid last o n) where
  -- they stand behind those that there were
  pub gathers_from : length old ≤ length mid
  gathers_from = omega (arith, ap length g.stand, length-append old (spans_in_order g.spans))

  pub gathers_few : length mid ≤ length old + length ps
  gathers_few =
      omega (
        arith,
        ap length g.stand,
        length-append old (spans_in_order g.spans),
        length-arranged (λ s. s.word) g.spans,
        AllZip-long (IsSpan t) g.spans ps g.each,
      )

  -- so they were put
  pub gathers_puts : (before new : Spans) → old ≡ held_spans before → mid ≡ held_spans new
      → (pieces : List Text) → pieces_in ps ≡ pieces → length ps ≤ length pieces
      → Puts t (in_order ps) pieces before new o n
  gathers_puts before new is now pieces e l = grind (arith, zip_append, zip_arranged, gathers_few)

  -- ---- one part more

  module _ (new : List Span) (now : ℕ) (k : Bool) (s : Span) (p : Part) (is : IsSpan t s p) where
    abbrev more : List Part
    more = ps ++ (p ∷ [])

    gathered : new ≡ old ++ spans_in_order (g.spans ++ s ∷ []) → last ≤ now →
        s.word ≤ now
        → (k ≡ true → (o ≡ true) × (flat_map printed_part (in_order more) ≡ map lower (pieces_in more)))
        → Gathers t more old new now o k
    gathered h l w order = grind (arith, zip_append, all_append, all_weaker)

    -- its number is above all others
    module _ (l : last < s.word) where
      below : AllByRecursion (λ q. q.word < p.word) ps
      below = grind (arith, all_weaker)

      below_span : AllByRecursion (λ x. x.word < s.word) g.spans
      below_span =
          spans_within t s.word g.spans ps g.each
          (all_weaker (λ q. q.word ≤ last) (λ q. q.word < s.word) (λ q a. omega arith) ps g.within)

      stands : new ≡ mid ++ s ∷ [] →
          new ≡ old ++ spans_in_order (g.spans ++ s ∷ [])
      stands e = grind (arith, append_assoc, arranged_behind, below_span)

      order_more : (k ≡ true → (n ≡ true) × (s.edited ≡ false)) → k ≡ true
          → (o ≡ true) × (flat_map printed_part (in_order more) ≡ map lower (pieces_in more))
      order_more h e = grind (arith, arranged_behind, below, flat_map-append, append-nil, map-append)

    same_number : IsAmong nat_cmp s.word (map (λ x. x.word) g.spans)
        → IsAmong nat_cmp p.word (map (λ q. q.word) ps)
    same_number a = grind (arith, numbers)

    same_none : ¬ (IsAmong nat_cmp s.word (map (λ x. x.word) g.spans))
        → ¬ (IsAmong nat_cmp p.word (map (λ q. q.word) ps))
    same_none h a = grind (arith, numbers)

    -- its number is new
    pub gathers_put : IsPutFrom (length old) s mid new last now n k Put
        → Gathers t more old new now o k × ¬ (IsAmong nat_cmp p.word (map (λ q. q.word) ps))
    gathers_put h = elim h [
      | inl b ↦ (
        gathered (stands b.0 b.3) (omega (arith, b.0, b.1)) (omega (arith, b.1)) (order_more b.0 b.2),
        among_less (λ q. q.word) ps p (below b.0),
      )
      | inr b ↦ grind (arith, gathered, same_none)
    ]

    -- its number is there
    pub gathers_there : IsPutFrom (length old) s mid new last now n k There
        → Gathers t more old new now o k × IsAmong nat_cmp p.word (map (λ q. q.word) ps)
    gathers_there h = grind (arith, gathered, true≢false, same_number)

-- where there is no room for it nothing is changed
pub put_full : (from : ℕ) (s : Span) (old new : List Span) (last now : ℕ) (o n : Bool) (r : Inserted) →
    r ≡ Full
    → IsPutFrom from s old new last now o n r → new ≡ old
put_full from s old new last now o n r is h = grind arith
