-- Blocks that were read, in whatever order: what they mean, and one block more.
use Rattle.std.proofs.Common.{◌≡◌, ℕ, Bool, true, false, cond, List, [], ◌∷◌, ◌++◌, map, filter, refl, sym, ap, ◌∙◌, subst, append-nil, arith}
use Rattle.std.specs.List.{list_any}
use Rattle.std.specs.Char.{is_ascii_alphanumeric}
use Rattle.std.specs.Ordering.{nat_cmp, eq_by_cmp}
use Rattle.std.specs.Cmp.{nat_cmp_total}
use Rattle.std.specs.FinMap.{find, nat_cmp-IsAntisymmetric}
use Rattle.std.proofs.lemmas.Bool.{or_parts, or_from, both_ways, false_from_ne_true}
use Rattle.iloc_spec_grammar.specs.Syntax.{code_x, code_u, code_t, Text, kept, AllDifferent, lower_singleton, is_other_singleton}
use Rattle.iloc_spec_grammar.specs.Meaning.{Extensions, BlocksMean, no_unicode, no_transform, other_blocks}
use Rattle.iloc_spec_grammar.specs.Tree.{by_singleton}
use Rattle.iloc_spec_grammar.specs.ByBlocks.{Rules, PartIs, BlocksGive}
use Rattle.iloc_spec_grammar.specs.Values.{Reordered, in_turn}
use Rattle.iloc_spec_grammar.proofs.Orders.{itself, moved, all_reordered, map_reordered, different_reordered, find_reordered, filter_reordered}
use Rattle.iloc_spec_grammar.proofs.MapLaws.{map_of_same}
use Rattle.iloc_spec_grammar.proofs.SameMeaning.{mean_give, give_mean}
use Rattle.iloc_extensions.specs.Blocks.{onto}

-- the last one first

onto_reordered : {X : Type 0} (xs ys : List X) → Reordered (xs ++ ys) (onto xs ys)
onto_reordered [] ys = itself ys
onto_reordered (x ∷ xs) ys = in_turn (moved x xs ys) (onto_reordered xs (x ∷ ys))

-- keys of blocks

abbrev letter_of : ℕ × List Text → ℕ × List Text
letter_of b = (lower_singleton b, b.1)

abbrev kept_of : ℕ × List Text → ℕ × List Text
kept_of b = (b.0, kept b.1)

pub letter_keys : (bs : List (ℕ × List Text)) →
    map (λ e. e.0) (by_singleton bs) ≡ map (λ b. lower_singleton b) bs
letter_keys [] = refl
letter_keys (b ∷ bs) = grind (arith, letter_keys bs)

kept_keys : (bs : List (ℕ × List Text)) → map (λ e. e.0) (map kept_of bs) ≡ map (λ e. e.0) bs
kept_keys [] = refl
kept_keys (b ∷ bs) = ap (λ l. b.0 ∷ l) (kept_keys bs)

still_none : (test : ℕ × List Text → Bool) (q : ℕ) (bs : List (ℕ × List Text)) →
    list_any (eq_by_cmp nat_cmp q) (map (λ e. e.0) bs) ≡ false →
    list_any (eq_by_cmp nat_cmp q) (map (λ e. e.0) (filter test bs)) ≡ false
still_none test q [] h = refl
still_none test q (b ∷ bs) h =
    let parts = or_parts _ _ h in
    elim (test b) as (λ t.
    list_any (eq_by_cmp nat_cmp q) (map (λ e. e.0) (cond t (b ∷ filter test bs) (filter test bs))) ≡ false) [
      | true ↦ or_from _ _ parts.0 (still_none test q bs parts.1)
      | false ↦ still_none test q bs parts.1
    ]

still_different : (test : ℕ × List Text → Bool) (bs : List (ℕ × List Text)) →
    AllDifferent nat_cmp (map (λ e. e.0) bs) → AllDifferent nat_cmp (map (λ e. e.0) (filter test bs))
still_different test [] h = tt
still_different test (b ∷ bs) h =
    elim (test b)
    as (λ t. AllDifferent nat_cmp (map (λ e. e.0) (cond t (b ∷ filter test bs) (filter test bs)))) [
      | true ↦ (both_ways _ (still_none test b.0 bs (false_from_ne_true _ h.0)), still_different test bs h.1)
      | false ↦ still_different test bs h.1
    ]

-- Blocks give the same in another order.
reordered : {R : Rules} {bs cs : List (ℕ × List Text)} (e : Extensions) → Reordered bs cs →
    BlocksGive R bs e → BlocksGive R cs e
reordered {R = R} {bs = bs} {cs = cs} e r m =
    let letters = map_reordered letter_of r in
    let keys : AllDifferent nat_cmp (map (λ e. e.0) (by_singleton bs)) =
    subst (AllDifferent nat_cmp) (sym (letter_keys bs)) m.different in
    let found : (q : ℕ) → find nat_cmp q (by_singleton bs) ≡ find nat_cmp q (by_singleton cs) =
    λ q. find_reordered nat_cmp nat_cmp_total q letters keys in
    let others = filter_reordered (λ b. is_other_singleton b.0) letters in
    let kinds : AllDifferent nat_cmp (map (λ e. e.0) (map kept_of (other_blocks bs))) =
    subst (AllDifferent nat_cmp) (sym (kept_keys (other_blocks bs)))
    (still_different (λ b. is_other_singleton b.0) (by_singleton bs) keys) in
    record {
      letters = all_reordered (λ b. is_ascii_alphanumeric b.0 ≡ true) r m.letters;
      different =
          different_reordered nat_cmp nat_cmp_total (map_reordered (λ b. lower_singleton b) r) m.different;
      unicode = subst (λ o. PartIs R.unicode no_unicode o e.unicode) (found code_u) m.unicode;
      transform = subst (λ o. PartIs R.transform no_transform o e.transform) (found code_t) m.transform;
      private = subst (λ o. PartIs R.private [] o e.private) (found code_x) m.private;
      each_other = all_reordered (λ b. R.other b.1 (kept b.1)) others m.each_other;
      others = m.others
          ∙ map_of_same nat_cmp nat_cmp_total nat_cmp-IsAntisymmetric
          (map kept_of (other_blocks bs)) (map kept_of (other_blocks cs))
          (λ q. find_reordered nat_cmp nat_cmp_total q (map_reordered kept_of others) kinds);
    }

pub turned : {R : Rules} (bs : List (ℕ × List Text)) (e : Extensions) → BlocksGive R bs e →
    BlocksGive R (onto bs []) e
turned bs e m = reordered e
    (subst (λ (l : List (ℕ × List Text)). Reordered l (onto bs [])) (append-nil bs)
    (onto_reordered bs [])) m

pub turned_means : {T : ℕ → Bool} (bs : List (ℕ × List Text)) (e : Extensions) → BlocksMean T bs e →
    BlocksMean T (onto bs []) e
turned_means bs e m = give_mean (turned bs e (mean_give m))
