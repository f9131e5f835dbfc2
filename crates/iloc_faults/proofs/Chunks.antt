-- Chunks of the variants that are left, compared with those after them.
use Rattle.std.proofs.Common.{◌≡◌, inl, inr, ℕ, ◌+◌, ◌-◌, ◌<◌, ◌≤◌, List, [], ◌∷◌, ◌++◌, length, ◌/◌, refl, sym, ap, ◌∙◌, subst, arith, append_assoc, append-nil, length-append}
use Rattle.std.specs.Ordering.{nat_cmp, ord_min}
use Rattle.std.proofs.lemmas.List.Sorted.{IsPermutation-sym}
use Rattle.std.proofs.lemmas.Map.Keys.{IsDistinct-IsPermutation}
use Rattle.std.proofs.lemmas.Nat.{div-add-mod', le-div}
use Rattle.std.specs.List.{IsDistinct}
use Rattle.std.specs.List.Sorted.{IsPermutation}
use Rattle.iloc_pieces.specs.declared.place.Cursor.{Cursor}
use Rattle.iloc_faults.specs.States.{AreNew}
use Rattle.iloc_faults.specs.Numbers.{same, AreNumbersAt, AreDistinct, AreOthers, ComeBefore}
use Rattle.iloc_faults.proofs.NewNumbers.{Cut, cut_at, longer, rest_distinct, both_distinct, others_both, others_first, others_rest, others_moved, Repeats, new_numbers, laws, repeats_part, begins_moved}

-- those before the place differ, and so many after it are none of them; the next repeats one, if there is a
-- next
pub record IsCompared (all : List ℕ) (at : Cursor) (done fresh : ℕ) : Type 0 where
  pub before : List ℕ
  pub new : List ℕ
  pub later : List ℕ
  pub cut : all ≡ before ++ (new ++ later)
  pub here : AreNumbersAt at (new ++ later)
  pub passed : done ≡ length before
  pub reach : fresh ≡ done + length new
  pub distinct : AreDistinct before
  pub others : AreOthers before new
  pub ends : Repeats (before ++ new) later

-- where a chunk is passed and all the others are new, the next is the same
same_ends : (before new first rest others later end : List ℕ) → new ≡ first ++ rest → rest ≡ others →
    later ≡ end → Repeats (before ++ new) end → Repeats ((before ++ first) ++ others) later
same_ends before new first rest others later end e f g h = grind (arith, append_assoc, Repeats)

pub record IsLeast (m a b : ℕ) : Type 0 where
  pub first : m ≤ a
  pub second : m ≤ b
  pub some : 1 ≤ a → 1 ≤ b → 1 ≤ m

pub least : (m a b : ℕ) → m ≡ ord_min nat_cmp a b → IsLeast m a b
least m a b e = grind arith

pub compare_starts : (all : List ℕ) (at : Cursor) → AreNumbersAt at all → IsCompared all at 0 (length all)
unfolding IsDistinct
compare_starts all at h = record {
  before = [];
  new = all;
  later = [];
  cut = sym (append-nil all);
  here = subst (AreNumbersAt at) (sym (append-nil all)) h;
  passed = refl;
  reach = omega arith;
  distinct = tt;
  others = none_of all;
  ends = tt;
}
  where
    none_of : (ns : List ℕ) → AreOthers [] ns
    none_of [] = tt
    none_of (n ∷ ns) = (refl, none_of ns)

module _ {all : List ℕ} {at : Cursor} {done fresh : ℕ} (w : IsCompared all at done fresh) where
  pub compare_ends : fresh ≤ done → AreNew same [] all fresh
  compare_ends most = by w.new w.cut w.reach w.ends
    where
      by : (new : List ℕ) → all ≡ w.before ++ (new ++ w.later) → fresh ≡ done + length new →
          Repeats (w.before ++ new) w.later → AreNew same [] all fresh
      by [] c l r =
          let e : length w.before ≡ fresh = omega (arith, l, w.passed) in
          subst (λ (ns : List ℕ). AreNew same [] ns fresh) (sym c)
          (subst (λ (n : ℕ). AreNew same [] (w.before ++ w.later) n) e
          (new_numbers [] w.before w.later w.distinct
          (subst (λ (ns : List ℕ). Repeats ns w.later) (append-nil w.before) r)))
      by (n ∷ ns) c l r = absurd (omega (arith, l, most))

  module _ (count : ℕ) (few : count ≤ fresh - done) where
    -- the next chunk, and what follows it
    pub chunk : Cut count w.new
    chunk = cut_at count w.new (omega (arith, w.reach, few))

    pub chunk_here : AreNumbersAt at (chunk.first ++ (chunk.later ++ w.later))
    chunk_here = grind (arith, append_assoc)

    -- a number comes twice in it
    pub compare_less : 0 < count → ¬ (AreDistinct chunk.first) → IsCompared all at done (done + count - 1)
    compare_less some twice = by (cut_at (count - 1) chunk.first (omega (arith, chunk.long)))
      where
        with_last : (ws : List ℕ) (r : ℕ) → chunk.first ≡ ws ++ (r ∷ []) → length ws ≡ count - 1 →
            IsCompared all at done (done + count - 1)
        with_last ws r e long =
            let tail = r ∷ (chunk.later ++ w.later) in
            let same_rest : w.new ++ w.later ≡ ws ++ tail =
            ap (λ ns. ns ++ w.later) chunk.is ∙ append_assoc chunk.first chunk.later w.later
            ∙ ap (λ ns. ns ++ (chunk.later ++ w.later)) e
            ∙ append_assoc ws (r ∷ []) (chunk.later ++ w.later) in
            record {
              before = w.before;
              new = ws;
              later = tail;
              cut = w.cut ∙ ap (λ ns. w.before ++ ns) same_rest;
              here = subst (AreNumbersAt at) same_rest w.here;
              passed = w.passed;
              reach = omega (arith, long, some);
              distinct = w.distinct;
              others = others_first w.before ws (r ∷ [])
                  (subst (AreOthers w.before) e (others_first w.before chunk.first chunk.later
                  (subst (AreOthers w.before) chunk.is w.others)));
              ends = λ d. twice (subst AreDistinct (sym e)
                  (rest_distinct w.before (ws ++ (r ∷ []))
                  (subst AreDistinct (append_assoc w.before ws (r ∷ [])) d)));
            }

        by : Cut (count - 1) chunk.first → IsCompared all at done (done + count - 1)
        by c = last c.later c.is
          where
            last : (ls : List ℕ) → chunk.first ≡ c.first ++ ls →
                IsCompared all at done (done + count - 1)
            last [] e = absurd (omega
                (arith, chunk.long, c.long, some, ap length e, length-append c.first []))
            last (r ∷ []) e = with_last c.first r e c.long
            last (r ∷ (q ∷ ls)) e = absurd (omega
                (arith, chunk.long, c.long, some, ap length e, length-append c.first (r ∷ (q ∷ ls))))

    -- none comes twice in it
    pub compare_more : (m : Cursor) (ms : List ℕ) (most found : ℕ) → AreDistinct chunk.first →
        IsPermutation chunk.first ms → most ≡ fresh - done - count →
        AreNumbersAt m (chunk.later ++ w.later) → ComeBefore ms most (chunk.later ++ w.later) found →
        IsCompared all m (done + count) (done + count + found)
    compare_more m ms most found d p long here o =
        let left : length chunk.later ≡ most =
        omega (arith, long, w.reach, chunk.long, ap length chunk.is, length-append chunk.first chunk.later) in
        let more = longer o.others o.later chunk.later w.later o.cut
        (omega (arith, o.long, o.within, left)) in
        record {
          before = w.before ++ chunk.first;
          new = o.others;
          later = o.later;
          cut = grind (arith, append_assoc);
          here = subst (AreNumbersAt m) o.cut here;
          passed = omega (arith, w.passed, chunk.long, length-append w.before chunk.first);
          reach = omega (arith, o.long);
          distinct = grind (arith, both_distinct, others_first);
          others = others_both w.before chunk.first o.others
              (grind (arith, others_first, others_rest))
              (others_moved chunk.first ms o.others p o.differ);
          ends = elim o.ends [
            | inl e ↦ all_differ more.0 more.1 more.2
                (omega (arith, e, left, o.long, ap length more.1, length-append o.others more.0))
            | inr b ↦
                repeats_part w.before chunk.first o.others o.later (begins_moved chunk.first ms o.later p b)
          ];
        }
      where
        all_differ : (ts : List ℕ) → chunk.later ≡ o.others ++ ts → o.later ≡ ts ++ w.later →
            length ts ≡ 0 → Repeats ((w.before ++ chunk.first) ++ o.others) o.later
        all_differ [] e f z = same_ends w.before w.new chunk.first chunk.later o.others o.later w.later
            chunk.is (e ∙ append-nil o.others) f w.ends
        all_differ (t ∷ ts) e f z = absurd (omega arith)

-- numbers that come twice are two at least
few_distinct : (ns : List ℕ) → ¬ (AreDistinct ns) → 2 ≤ length ns
unfolding IsDistinct
few_distinct [] h = absurd (h tt)
few_distinct (n ∷ []) h = absurd (h (tt, tt))
few_distinct (n ∷ (m ∷ ns)) h = omega arith

-- a chunk was filled and sorted
module _ {all : List ℕ} {at : Cursor} {done fresh : ℕ} (w : IsCompared all at done fresh) (count : ℕ)
    (few : count ≤ fresh - done) (words sorted : List ℕ) (m : Cursor) (long : length words ≡ count)
    (filled : (ns ks : List ℕ) → AreNumbersAt at (ns ++ ks) → length ns ≡ length words →
    (words ≡ ns) × AreNumbersAt m ks) (moves : IsPermutation words sorted) where
  both : (words ≡ (chunk w count few).first) × AreNumbersAt m ((chunk w count few).later ++ w.later)
  both = filled (chunk w count few).first ((chunk w count few).later ++ w.later) (chunk_here w count few)
      ((chunk w count few).long ∙ sym long)

  reaches : fresh - done - count ≤ length ((chunk w count few).later ++ w.later)
  reaches = grind (arith, length-append)

  -- what follows the chunk
  pub left_here : (ns : List ℕ) × AreNumbersAt m ns × (fresh - done - count ≤ length ns)
  left_here = grind (arith, both, reaches)

  -- a number comes twice
  pub with_twice : ¬ (AreDistinct sorted) →
      IsCompared all at done (done + count - 1) × (1 ≤ count / 2) × (count / 2 ≤ count)
  with_twice h =
      let here : ¬ (AreDistinct words) =
      λ d. h (IsDistinct-IsPermutation same laws.symm words sorted moves d) in
      grind (arith, few_distinct, compare_less, both, le-div, div-add-mod')

  -- none comes twice
  pub with_once : AreDistinct sorted → (found : ℕ) →
      ((ns : List ℕ) → AreNumbersAt m ns → fresh - done - count ≤ length ns →
      ComeBefore sorted (fresh - done - count) ns found) →
      IsCompared all m (done + count) (done + count + found)
  with_once h found come = compare_more w count few m sorted (fresh - done - count) found
      (subst AreDistinct both.0
      (IsDistinct-IsPermutation same laws.symm sorted words (IsPermutation-sym words sorted moves) h))
      (subst (λ (ns : List ℕ). IsPermutation ns sorted) both.0 moves) refl both.1
      (come ((chunk w count few).later ++ w.later) both.1 reaches)

  pub found_within : (found : ℕ) →
      ((ns : List ℕ) → AreNumbersAt m ns → fresh - done - count ≤ length ns →
      ComeBefore sorted (fresh - done - count) ns found) → found ≤ fresh - done - count
  found_within found come = grind (arith, both, reaches)
