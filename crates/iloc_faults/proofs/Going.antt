-- Pieces go on exactly if all of them may come one after another.
use Rattle.std.proofs.Common.{◌≡◌, ℕ, true, false, List, [], ◌∷◌, ◌++◌, Option, Some, None, codes, refl, sym, ap, ◌∙◌, subst, arith}
use Rattle.std.specs.List.{AllByRecursion}
use Rattle.iloc_spec_grammar.specs.Syntax.{Text, languages, is_word, is_true, lower, pieces, join, IsHyphenFree}
use Rattle.iloc_spec_grammar.proofs.PiecesLaws.{pieces-join, pieces_hyphen_free}
use Rattle.iloc_spec_grammar.proofs.ReadBack.{all_append}
use Rattle.iloc_normalize.specs.declared.Mode.{Mode}
use Rattle.iloc_faults.specs.declared.state.Part.{Part}
use Rattle.iloc_faults.specs.declared.state.Part.TheVariants.{Start, Transform, FieldKey, Unicode, Other, Private, Subdivision, SubdivisionKey}
use Rattle.iloc_faults.specs.Next.{Reached, started, next, outcome, run}
use Rattle.iloc_faults.specs.Places.{GoOn}
use Rattle.iloc_faults.proofs.DataSteps.{fine}
use Rattle.iloc_faults.proofs.Answers.{accepted_is}

-- ---- runs

pub run_append : (mode : Mode) (o : Option Reached) (xs ys : List Text) →
    run mode o (xs ++ ys) ≡ run mode (run mode o xs) ys
run_append mode None xs ys = refl
run_append mode (Some r) [] ys = refl
run_append mode (Some r) (x ∷ xs) ys = run_append mode (next mode r x) xs ys

-- the outcome is that of what was reached
pub verdict_run : (mode : Mode) (r s : Reached) (xs ys : List Text) → run mode (Some r) xs ≡ Some s →
    outcome mode r (xs ++ ys) ≡ outcome mode s ys
verdict_run mode r s [] ys e = grind arith
verdict_run mode r s (x ∷ xs) ys e = by (next mode r x) refl (λ q h. verdict_run mode q s xs ys h)
  where
    by : (o : Option Reached) → next mode r x ≡ o →
        ((q : Reached) → run mode (Some q) xs ≡ Some s → outcome mode q (xs ++ ys) ≡ outcome mode s ys) →
        outcome mode r ((x ∷ xs) ++ ys) ≡ outcome mode s ys
    by None n h = let none : run mode None xs ≡ Some s = ap (λ o. run mode o xs) (sym n) ∙ e in cc
    by (Some q) n h = rw n (h q (ap (λ o. run mode o xs) (sym n) ∙ e))

-- and not fine, if nothing was reached
pub stopped : (mode : Mode) (r : Reached) (xs ys : List Text) → run mode (Some r) xs ≡ None →
    fine (outcome mode r (xs ++ ys)) ≡ false
stopped mode r [] ys e = cc
stopped mode r (x ∷ xs) ys e = by (next mode r x) refl (λ q h. stopped mode q xs ys h)
  where
    by : (o : Option Reached) → next mode r x ≡ o →
        ((q : Reached) → run mode (Some q) xs ≡ None → fine (outcome mode q (xs ++ ys)) ≡ false) →
        fine (outcome mode r ((x ∷ xs) ++ ys)) ≡ false
    by None n h = rw n refl
    by (Some q) n h = rw n (h q (ap (λ o. run mode o xs) (sym n) ∙ e))

-- ---- what completes a text

-- pieces that may follow, and then the text may end
abbrev pub ending : Part → List Text
ending Start = codes "abc" ∷ []
ending Transform = codes "abc" ∷ []
ending FieldKey = codes "abc" ∷ []
ending Unicode = codes "abc" ∷ []
ending Other = codes "abc" ∷ []
ending Private = codes "abc" ∷ []
ending Subdivision = codes "sd" ∷ codes "abc" ∷ []
ending SubdivisionKey = codes "abc" ∷ []
ending _ = []

ends_at : (mode : Mode) (part : Part) (vs : List Text) (seen : List ℕ) →
    fine (outcome mode (record { part = part; variants = vs; seen = seen }) (ending part)) ≡ true
unfolding is_word languages is_true lower
ends_at mode part vs seen = grind arith

ending_free : (part : Part) → AllByRecursion IsHyphenFree (ending part)
ending_free part = grind arith

front_free : (xs ys : List Text) → AllByRecursion IsHyphenFree (xs ++ ys) → AllByRecursion IsHyphenFree xs
front_free [] ys h = tt
front_free (x ∷ xs) ys h = (h.0, front_free xs ys h.1)

-- ---- so pieces go on

-- all of them may come
pub goes_on : (mode : Mode) (t : Text) (done rest : List Text) (r : Reached) → pieces t ≡ done ++ rest →
    run mode (Some started) done ≡ Some r → GoOn mode done
goes_on mode t done rest r e h = record {
  text = join (done ++ ending r.part);
  accepted =
      (accepted_is mode (join (done ++ ending r.part))).1 (ap (λ ps. fine (outcome mode started ps)) cut
      ∙ ap fine (verdict_run mode started r done (ending r.part) h) ∙ ends_at mode r.part r.variants r.seen);
  rest = ending r.part;
  begins = cut;
}
  where
    free : AllByRecursion IsHyphenFree (done ++ ending r.part)
    free = all_append IsHyphenFree done (ending r.part)
        (front_free done rest (subst (AllByRecursion IsHyphenFree) e (pieces_hyphen_free t)))
        (ending_free r.part)

    by : (xs : List Text) → run mode (Some started) xs ≡ Some r →
        AllByRecursion IsHyphenFree (xs ++ ending r.part) →
        pieces (join (xs ++ ending r.part)) ≡ xs ++ ending r.part
    by [] k f = let same : started ≡ r = cc in
        subst (λ (q : Reached).
        AllByRecursion IsHyphenFree (ending q.part) → pieces (join (ending q.part)) ≡ ending q.part) same
        (pieces-join (codes "abc") []) f
    by (x ∷ xs) k f = pieces-join x (xs ++ ending r.part) f

    cut : pieces (join (done ++ ending r.part)) ≡ done ++ ending r.part
    cut = by done h free

-- one of them may not
pub goes_no_longer : (mode : Mode) (ps : List Text) → run mode (Some started) ps ≡ None → ¬ (GoOn mode ps)
goes_no_longer mode ps e g = grind (arith, accepted_is, fine, stopped)
