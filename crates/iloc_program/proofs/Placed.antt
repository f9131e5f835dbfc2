-- Each text has a place at which a fault would stand.
use Rattle.std.proofs.Common.{◌≡◌, ℕ, List, [], ◌∷◌, ◌++◌, Option, Some, None, inl, inr, refl, sym, ap, ◌∙◌, subst, ◌+◌, append_assoc, append-nil, length}
use Rattle.iloc_spec_grammar.specs.Syntax.{Text, pieces, dashes}
use Rattle.iloc_normalize.specs.declared.Mode.{Mode}
use Rattle.iloc_normalize.specs.Answered.{HasRefusal}
use Rattle.iloc_subtags.specs.declared.parse_error.ParseError.{ParseError}
use Rattle.iloc_faults.specs.Next.{Reached, started, next, run}
use Rattle.iloc_faults.specs.Places.{GoOn, IsFault, IsFaultPlace}
use Rattle.iloc_faults.proofs.Going.{run_append, goes_on, goes_no_longer}

abbrev SomePlace : Mode → Text → Type 0
SomePlace mode t = (start : ℕ) × (end : ℕ) × IsFaultPlace mode t start end

module _ (mode : Mode) (t : Text) where
  run_nil : (o : Option Reached) → run mode o [] ≡ o
  run_nil None = refl
  run_nil (Some r) = refl

  -- with one more piece
  stepped : (before : List Text) (p : Text) (r : Reached) (o : Option Reached) →
      run mode (Some started) before ≡ Some r → next mode r p ≡ o →
      run mode (Some started) (before ++ p ∷ []) ≡ o
  stepped before p r o h e =
      run_append mode (Some started) before (p ∷ []) ∙ ap (λ q. run mode q (p ∷ [])) h
      ∙ run_nil (next mode r p) ∙ e

  -- after pieces that go on
  place_after : (rest before : List Text) (r : Reached) → pieces t ≡ before ++ rest →
      run mode (Some started) before ≡ Some r → SomePlace mode t
  place_after [] before r cut h =
      let whole : before ≡ pieces t = sym (cut ∙ append-nil before) in (
        length t,
        length t,
        inr (record {
          go_on = subst (GoOn mode) whole (goes_on mode t before [] r cut h);
          from = refl;
          to = refl;
        }),
      )
  place_after (p ∷ ps) before r cut h = by (next mode r p) refl (λ q e.
      place_after ps (before ++ p ∷ []) q (cut ∙ sym (append_assoc before (p ∷ []) ps))
      (stepped before p r (Some q) h e))
    where
      by : (o : Option Reached) → next mode r p ≡ o →
          ((q : Reached) → next mode r p ≡ Some q → SomePlace mode t) → SomePlace mode t
      by None e more = (
        length (dashes before),
        length (dashes before) + length p,
        inl (record {
          before = before;
          piece = p;
          after = ps;
          cut = cut;
          go_on = goes_on mode t before (p ∷ ps) r cut h;
          no_longer = goes_no_longer mode (before ++ p ∷ []) (stepped before p r None h e);
          from = refl;
          to = refl;
        }),
      )
      by (Some q) e more = more q e

  -- a refusal stands somewhere
  pub fault_there : (e : ParseError) → HasRefusal mode t e →
      (start : ℕ) × (end : ℕ) × IsFault mode t (record { refusal = e; start = start; end = end })
  fault_there e h =
      let place = place_after (pieces t) [] started refl refl in
      (place.0, place.1, record { refusal = h; place = place.2 })
