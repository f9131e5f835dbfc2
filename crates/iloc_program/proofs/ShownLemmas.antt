-- Texts of which the first bytes are shown as themselves.
use Rattle.std.proofs.Common.{◌≡◌, ℕ, zero, suc, ◌+◌, ◌-◌, ◌<◌, ◌≤◌, Bool, true, not, [], ◌∷◌, ◌++◌, length, map, get_or, take, drop, refl, sym, ap, ◌∙◌, arith, append-nil}
use lib.Lanes.{mask_l}
use Rattle.std.specs.List.{prefix_len}
use Rattle.std.proofs.Math.Seq.{take-suc}
use Rattle.std.proofs.lemmas.Bool.Decides.{nat_tests}
use Rattle.std.proofs.lemmas.List.{take-append-drop, take-take, take_all, drop-take, length-drop, length-take-le}
use Rattle.std.proofs.lemmas.List.Sums.{prefix_len_passes, prefix_len-le-length}
use Rattle.std.proofs.lemmas.List.Concat.{flat_map-append}
use Rattle.iloc_spec_grammar.specs.Syntax.{Text}
use Rattle.iloc_program.specs.Listing.{is_escaped, shown, shown_byte}

pub shown_front : (t : Text) (k : ℕ) → shown (take k t) ≡ take k t → shown t ≡ take k t ++ shown (drop k t)
shown_front t k e = ap shown (sym (take-append-drop k t))
    ∙ flat_map-append shown_byte (take k t) (drop k t) ∙ ap (λ u. u ++ shown (drop k t)) e

-- one byte more
pub shown_more : (t : Text) (k : ℕ) → k < length t → shown (take k t) ≡ take k t →
    shown_byte (get_or t k 0) ≡ get_or t k 0 ∷ [] → shown (take (k + 1) t) ≡ take (k + 1) t
shown_more t k less h e =
    let next : k + 1 ≡ suc k = omega arith in
    let one : take (k + 1) t ≡ take k t ++ (get_or t k 0 ∷ []) =
    ap (λ (j : ℕ). take j t) next ∙ take-suc t k 0 less in
    ap shown one ∙ flat_map-append shown_byte (take k t) (get_or t k 0 ∷ [])
    ∙ (λ j. h j ++ (append-nil (shown_byte (get_or t k 0)) ∙ e) j) ∙ sym one

-- a byte that is not escaped is shown as itself
shown_plain : (b : ℕ) → not (is_escaped b) ≡ true → shown_byte b ≡ b ∷ []
shown_plain b e = grind (arith, nat_tests)

-- so are the bytes before the first that is escaped
pub shown_before : (t : Text) (k : ℕ) → k ≤ prefix_len (λ b. not (is_escaped b)) t →
    shown (take k t) ≡ take k t
shown_before t zero few = refl
shown_before t (suc k) few =
    let q = λ (b : ℕ). not (is_escaped b) in
    let next : k + 1 ≡ suc k = omega arith in
    let early : k < prefix_len q t = omega arith in
    let less : k < length t = omega (arith, prefix_len-le-length q t) in
    let more = shown_more t k less (shown_before t k (omega arith))
    (shown_plain (get_or t k 0) (prefix_len_passes q t k 0 early)) in
    (λ j. shown (take (sym next j) t)) ∙ more ∙ ap (λ (n : ℕ). take n t) next

-- a piece of a text that has sixteen bytes behind it
module _ (w : Text) (start end : ℕ) (wide : 16 ≤ length w) (ordered : start ≤ end)
    (within : end ≤ length (take (length w - 16) w)) where
  abbrev lanes : Text
  lanes = take 16 (take (length w - start) (drop start w))

  lanes_are : lanes ≡ take 16 (drop start w)
  lanes_are = ap (take 16)
      (take_all (length w - start) (drop start w) (omega (arith, length-drop start w)))

  inside : end ≤ length w - 16
  inside = omega (arith, length-take-le (length w - 16) w (omega arith))

  sixteen : length lanes ≡ 16
  sixteen =
      ap length lanes_are ∙ length-take-le 16 (drop start w) (omega (arith, length-drop start w, inside))

  -- it is one of the window
  pub in_window : take (end - start) (drop start (take (length w - 16) w)) ≡ take (end - start) (drop start w)
  in_window =
      let parts : length w - 16 ≡ start + (length w - 16 - start) = omega (arith, inside) in
      let few : end - start ≤ length w - 16 - start = omega (arith, inside) in
      ap (λ (m : ℕ). take (end - start) (drop start (take m w))) parts
      ∙ ap (take (end - start)) (drop-take start (length w - 16 - start) w)
      ∙ take-take (end - start) (length w - 16 - start) (drop start w) few

  -- and if nothing in it is escaped, the first of sixteen bytes
  module _ (n mask : ℕ) (are : (p : ℕ → Bool) (v : Text) → length v ≡ 16 → mask ≡ mask_l (map p v) →
      n ≡ prefix_len (λ b. not (p b)) v) (marks : mask ≡ mask_l (map is_escaped lanes))
      (enough : end - start ≤ n) where
    before : n ≡ prefix_len (λ b. not (is_escaped b)) lanes
    before = are is_escaped lanes sixteen marks

    pub at_most_sixteen : end - start ≤ 16
    at_most_sixteen =
        omega (arith, before, sixteen, prefix_len-le-length (λ b. not (is_escaped b)) lanes)

    pub stored : take (end - start) lanes
        ≡ shown (take (end - start) (drop start (take (length w - 16) w)))
    stored =
        sym (shown_before lanes (end - start) (omega (arith, before)))
        ∙ ap shown (ap (take (end - start)) lanes_are
        ∙ take-take (end - start) 16 (drop start w) at_most_sixteen ∙ sym in_window)
