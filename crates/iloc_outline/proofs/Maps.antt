-- Maps of entries: under other keys, with an entry put between two others, and with what is printed of each.
use Rattle.std.proofs.Common.{arith, ◌≡◌, ℕ, ◌<◌, cond, true, false, List, [], ◌∷◌, ◌++◌, map, flat_map, refl, ap, ◌∙◌, Option, Some, None, append_assoc}
use Rattle.std.specs.List.{AllByRecursion}
use Rattle.std.specs.Option.{option_or}
use Rattle.std.specs.Ordering.{nat_cmp, eq_by_cmp, is_eq}
use Rattle.std.specs.declared.cmp.Ordering.{Ordering}
use Rattle.std.specs.declared.cmp.Ordering.TheVariants.{Less, Equal, Greater}
use Rattle.std.specs.Cmp.{nat_cmp_total}
use Rattle.std.specs.FinMap.{put, find, IsAntisymmetric, nat_cmp-IsAntisymmetric}
use Rattle.std.specs.FinMap.Entries.{by_order}
use Rattle.std.proofs.lemmas.Bool.{cond_both}
use Rattle.iloc_spec_grammar.specs.Meaning.{map_of}
use Rattle.iloc_spec_grammar.proofs.MapLaws.{find-map_of, all-map_of, map_of_same}
use Rattle.iloc_spec_grammar.proofs.SetLaws.{find-append}
use Rattle.iloc_spec_grammar.proofs.Singletons.{tied}
use Rattle.iloc_spans.proofs.Arranging.{or_none}
use Rattle.iloc_pieces.proofs.WordOrder.{is_less, is_greater}

-- ---- entries under other keys, which are ordered alike

module _ {K X L Y : Type 0} (R : K → K → Ordering) (S : L → L → Ordering) (same : IsAntisymmetric R)
    (exact : IsAntisymmetric S) (P : K × X → Type 0) (name : K × X → L) (value : K × X → Y)
    (alike : (e f : K × X) → P e → P f → R e.0 f.0 ≡ S (name e) (name f)) where
  abbrev pub carried : List (K × X) → List (L × Y)
  carried es = map (λ e. (name e, value e)) es

  put_carried : (k : K) (v : X) (es : List (K × X)) → P (k, v) → AllByRecursion P es
      → carried (put R k v es) ≡ put S (name (k, v)) (value (k, v)) (carried es)
  put_carried k v [] p h = refl
  put_carried k v (e ∷ es) p h = grind (arith, put_carried k v es p h.1)

  -- the map under other keys is the map of the entries under those
  pub map_of_carried : (es : List (K × X)) → AllByRecursion P es → carried (map_of R es)
      ≡ map_of S (carried es)
  map_of_carried [] h = refl
  map_of_carried (e ∷ es) h = grind (arith, put_carried, all-map_of, map_of_carried es h.1)

-- ---- an entry between others

-- an entry stands between those of lesser and those of greater keys
pub put_between : {X : Type 0} (k : ℕ) (v : X) (es fs : List (ℕ × X)) → AllByRecursion (λ e. e.0 < k) es
    → AllByRecursion (λ e. k < e.0) fs → put nat_cmp k v (es ++ fs) ≡ es ++ (k, v) ∷ fs
put_between k v [] [] g h = refl
put_between k v [] (f ∷ fs) g h = search is_less
put_between k v (e ∷ es) fs g h = search (is_greater, put_between k v es fs g.1 h)

-- ---- what is printed of each entry

-- the values of a map, one after another
abbrev pub flat : {X : Type 0} → List (ℕ × List X) → List X
flat es = flat_map (λ e. e.1) es

-- of two lists, one behind the other
pub flat-append : {X : Type 0} (es fs : List (ℕ × List X)) → flat (es ++ fs) ≡ flat es ++ flat fs
flat-append [] fs = refl
flat-append (e ∷ es) fs = simp (append_assoc, flat-append es fs)

flat-put : {X : Type 0} (k : ℕ) (es : List (ℕ × List X)) → find nat_cmp k es ≡ None
    → flat (put nat_cmp k [] es) ≡ flat es
flat-put k [] h = refl
flat-put k (e ∷ es) h =
    elim (nat_cmp k e.0) as (λ r. cond (is_eq r) (Some e.1) (find nat_cmp k es) ≡ None
    → flat (by_order r ((k, []) ∷ e ∷ es) ((e.0, []) ∷ es) (e ∷ put nat_cmp k [] es)) ≡ flat (e ∷ es)) [
      | Less ↦ λ _. refl
      | Equal ↦ λ h. cc
      | Greater ↦ λ h. ap (λ l. e.1 ++ l) (flat-put k es h)
    ] h

-- a last entry that prints nothing changes nothing
pub flat-last : {X : Type 0} (k : ℕ) (es : List (ℕ × List X))
    → flat (map_of nat_cmp (es ++ (k, []) ∷ [])) ≡ flat (map_of nat_cmp es)
flat-last {X = X} k es = at (find nat_cmp k es) refl
  where
    found : (v : List X) → find nat_cmp k es ≡ Some v → (q : ℕ) → find nat_cmp q (es ++ (k, []) ∷ [])
        ≡ find nat_cmp q es
    found v e q = find-append nat_cmp q es ((k, []) ∷ [])
        ∙ cond_both (eq_by_cmp nat_cmp q k) (Some []) None
        (λ o. option_or (find nat_cmp q es) o ≡ find nat_cmp q es)
        (λ t. rw (← (tied q k t)) (rw e))
        (λ t. or_none (find nat_cmp q es))

    missed : find nat_cmp k es ≡ None → (q : ℕ) → find nat_cmp q (es ++ (k, []) ∷ [])
        ≡ find nat_cmp q ((k, []) ∷ es)
    missed e q = find-append nat_cmp q es ((k, []) ∷ [])
        ∙ elim (eq_by_cmp nat_cmp q k) as (λ b. eq_by_cmp nat_cmp q k ≡ b
        → option_or (find nat_cmp q es) (cond b (Some []) None) ≡ cond b (Some []) (find nat_cmp q es)) [
          | true ↦ λ t. rw (← (tied q k t)) (rw e)
          | false ↦ λ t. or_none (find nat_cmp q es)
        ] refl

    at : (o : Option (List X)) → find nat_cmp k es ≡ o → flat (map_of nat_cmp (es ++ (k, []) ∷ []))
        ≡ flat (map_of nat_cmp es)
    at (Some v) e = ap flat (map_of_same nat_cmp nat_cmp_total nat_cmp-IsAntisymmetric (es ++ (k, []) ∷ []) es
        (found v e))
    at None e = ap flat (map_of_same nat_cmp nat_cmp_total nat_cmp-IsAntisymmetric (es ++ (k, []) ∷ [])
        ((k, []) ∷ es) (missed e))
        ∙ flat-put k (map_of nat_cmp es) (find-map_of nat_cmp nat_cmp_total k es ∙ e)
