-- One item more is put among others: of a list the first items stay, then come those in order.
use Rattle.std.proofs.Common.{◌≡◌, ◌≢◌, ℕ, suc, ◌+◌, ◌-◌, ◌<◌, ◌≤◌, List, [], ◌∷◌, ◌++◌, length, take, drop, map, sym, ap, ◌∙◌, subst, arith, slice_index, slice_index_or, append_assoc, length-append}
use Rattle.std.specs.Ordering.{nat_cmp}
use Rattle.std.proofs.Math.Seq.{drop-cons, take-suc, take-append-add, drop-append-add}
use Rattle.std.proofs.Math.ListN.{length-map}
use Rattle.std.proofs.lemmas.List.{map-append, take-append-drop, drop-drop, length-drop, length-take-le, take-take, drop-take, get_or-take, get_or-append-add, get_or-drop, append-nil, take-map, take_all}
use Rattle.iloc_spec_grammar.specs.Syntax.{IsAmong}
use Rattle.iloc_spans.proofs.Arranging.{among_none, among_there, arranged, arranged_new, arranged_there, nth, IsPlace}

-- a list whose first items are two lists
module _ {X : Type 0} (now F S : List X) (made : ℕ) (is : take made now ≡ F ++ S)
    (inside : made ≤ length now) where
  many : made ≡ length F + length S
  many = sym (length-take-le made now inside) ∙ ap length is ∙ length-append F S

  front_at : (a : ℕ) → length F + a ≤ made → take (length F + a) now ≡ F ++ take a S
  front_at a l =
      sym (take-take (length F + a) made now l) ∙ ap (take (length F + a)) is ∙ take-append-add F S a

  back_at : (a : ℕ) → length F + a ≤ made → take (made - (length F + a)) (drop (length F + a) now) ≡ drop a S
  back_at a l =
      let k = length F + a in
      let n : made ≡ k + (made - k) = omega arith in
      sym (drop-take k (made - k) now) ∙ ap (λ m. drop k (take m now)) (sym n) ∙ ap (drop k) is
      ∙ drop-append-add F S a

  nth_at : (word : X → ℕ) (a : ℕ) → length F + a < made →
      slice_index (map word now) (length F + a) ≡ nth word S a
  nth_at word a l =
      sym (get_or-take made (map word now) (length F + a) 0 l)
      ∙ ap (λ l. slice_index l (length F + a))
      (take-map word made now ∙ ap (map word) is ∙ map-append word F S)
      ∙ ap (λ n. slice_index (map word F ++ map word S) (n + a)) (sym (length-map F word))
      ∙ get_or-append-add (map word F) (map word S) a 0

-- lists that end alike
pub same_later : {X : Type 0} (xs ys : List X) (a b : ℕ) → a ≤ b → drop a xs ≡ drop a ys →
    drop b xs ≡ drop b ys
same_later xs ys a b l e =
    let n : b ≡ a + (b - a) = omega arith in
    ap (λ m. drop m xs) n ∙ sym (drop-drop (b - a) a xs) ∙ ap (drop (b - a)) e ∙ drop-drop (b - a) a ys
    ∙ ap (λ m. drop m ys) (sym n)

-- the first items stay, then come others in order, and one item is put among these
module _ {X : Type 0} (word : X → ℕ) (now F xs : List X) (made : ℕ) (inside : made ≤ length now)
    (sorted : take made now ≡ F ++ arranged word xs) (u : X) (at : ℕ) (low : length F ≤ at) where
  abbrev S : List X
  S = arranged word xs

  long : made ≡ length F + length S
  long = many now F S made sorted inside

  whole : length F + (at - length F) ≡ at
  whole = omega (arith, low)

  module _ (high : at ≤ made) (after : length F < at → slice_index (map word now) (at - 1) < word u)
      (before : at < made → word u ≤ slice_index (map word now) at)
      (differ : at < made → slice_index (map word now) at ≢ word u) where
    place : IsPlace word S (word u) (at - length F)
    place = record {
      within = omega (arith, long);
      after = λ j is. let m : length F + j ≡ at - 1 = omega arith in
          subst (λ n. n < word u)
          (ap (slice_index (map word now)) (sym m) ∙ nth_at now F S made sorted inside word j (omega arith))
          (after (omega arith));
      before = λ more.
          let lower : at < made = omega (arith, long) in
          let a = before lower in
          let b = differ lower in
          let h : word u < slice_index (map word now) at = omega arith in
          subst (λ n. word u < n)
          (ap (slice_index (map word now)) (sym whole)
          ∙ nth_at now F S made sorted inside word (at - length F) (omega (arith, whole))) h;
    }

    -- its number is new
    pub put_none : ¬ (IsAmong nat_cmp (word u) (map word xs))
    put_none = among_none word xs u (at - length F) place

    -- it stands at its place
    pub put_new : (news : List X) → take (made + 1) news ≡ take at now ++ (u ∷ take (made - at) (drop at now))
        → take (made + 1) news ≡ F ++ arranged word (xs ++ u ∷ [])
    put_new news e =
        let l : length F + (at - length F) ≤ made = omega (arith, whole) in
        let n = at - length F in
        let front : take at now ≡ F ++ take n S =
        ap (λ n. take n now) (sym whole) ∙ front_at now F S made sorted inside n l in
        let back : take (made - at) (drop at now) ≡ drop n S =
        ap (λ n. take (made - n) (drop n now)) (sym whole) ∙ back_at now F S made sorted inside n l in
        e ∙ (λ j. front j ++ u ∷ back j) ∙ append_assoc F (take n S) (u ∷ drop n S)
        ∙ ap (λ l. F ++ l) (sym (arranged_new word xs u n place))

  module _ (high : at < made) (here : slice_index (map word now) at ≡ word u) where
    here_at : nth word S (at - length F) ≡ word u
    here_at =
        sym (nth_at now F S made sorted inside word (at - length F) (omega (arith, whole)))
        ∙ ap (slice_index (map word now)) whole ∙ here

    -- its number is there
    pub put_among : IsAmong nat_cmp (word u) (map word xs)
    put_among = among_there word xs (word u) (at - length F) (omega (arith, long)) here_at

    -- nothing changes
    pub put_there : take made now ≡ F ++ arranged word (xs ++ u ∷ [])
    put_there =
        sorted
        ∙ ap (λ l. F ++ l) (sym (arranged_there word xs u (at - length F) (omega (arith, long)) here_at))

-- all of a list where one was put at a place
module _ {X : Type 0} (held new : List X) (at : ℕ) (u : X) (l : at ≤ length held)
    (e : new ≡ take at held ++ u ∷ drop at held) where
  pub all_new : take (length held + 1) new ≡ new
  all_new =
      take_all (length held + 1) new
      (omega (
        arith,
        ap length e,
        length-append (take at held) (u ∷ drop at held),
        length-take-le at held l,
        length-drop at held,
      ))

  pub is_new : take (length held + 1) new ≡ take at held ++ (u ∷ take (length held - at) (drop at held))
  is_new =
      all_new ∙ e
      ∙ ap (λ ys. take at held ++ u ∷ ys)
      (sym (take_all (length held - at) (drop at held) (omega (arith, length-drop at held))))

-- there are as many as before, where another stood behind them
pub same_long : {X : Type 0} (now news : List X) (made at : ℕ) (u : X) → at ≤ made → made < length now
    → take (made + 1) news ≡ take at now ++ (u ∷ take (made - at) (drop at now))
    → drop (made + 1) news ≡ drop (made + 1) now → length news ≡ length now
same_long now news made at u l m front back =
    omega (
      arith,
      ap length (take-append-drop (made + 1) news),
      length-append (take (made + 1) news) (drop (made + 1) news),
      ap length front,
      length-append (take at now) (u ∷ take (made - at) (drop at now)),
      length-take-le at now (omega arith),
      length-take-le (made - at) (drop at now) (omega (arith, length-drop at now)),
      length-drop at now,
      ap length back,
      length-drop (made + 1) now,
    )

-- one more of the items from one on is moved before others
pub moved_more : {X : Type 0} (old now news : List X) (at from i : ℕ) (d : X) → at ≤ from → from ≤ i →
    i < length old → i < length now
    → take i now ≡ take at old ++ (take (i - from) (drop from old) ++ drop at (take from old)) →
    drop i now ≡ drop i old
    → take (i + 1) news
    ≡ take (at + (i - from)) now
    ++ (slice_index_or now i d ∷ take (i - (at + (i - from))) (drop (at + (i - from)) now))
    → take (i + 1) news ≡ take at old ++ (take (i + 1 - from) (drop from old) ++ drop at (take from old))
moved_more old now news at from i d low high inside within is rest e =
    let A = take at old in
    let B = take (i - from) (drop from old) in
    let C = drop at (take from old) in
    let u = slice_index_or now i d in
    let a : length A ≡ at = length-take-le at old (omega arith) in
    let b : length B ≡ i - from =
    length-take-le (i - from) (drop from old) (omega (arith, length-drop from old)) in
    let n : length (A ++ B) + 0 ≡ at + (i - from) = omega (arith, length-append A B) in
    let two : take i now ≡ (A ++ B) ++ C = is ∙ sym (append_assoc A B C) in
    let l : length (A ++ B) + 0 ≤ i = omega arith in
    let front : take (at + (i - from)) now ≡ A ++ B =
    ap (λ m. take m now) (sym n) ∙ front_at now (A ++ B) C i two (omega arith) 0 l ∙ append-nil (A ++ B) in
    let back : take (i - (at + (i - from))) (drop (at + (i - from)) now) ≡ C =
    ap (λ m. take (i - m) (drop m now)) (sym n) ∙ back_at now (A ++ B) C i two (omega arith) 0 l in
    let k : i + 1 - from ≡ suc (i - from) = omega arith in
    let f = drop-cons now i d within in let g = drop-cons old i d inside in
    let same : slice_index_or old i d ≡ u = cc in
    let p : from + (i - from) ≡ i = omega arith in
    let item : slice_index_or (drop from old) (i - from) d ≡ u =
    get_or-drop from old (i - from) d ∙ ap (λ m. slice_index_or old m d) p ∙ same in
    let more : take (i + 1 - from) (drop from old) ≡ B ++ u ∷ [] =
    ap (λ m. take m (drop from old)) k
    ∙ take-suc (drop from old) (i - from) d (omega (arith, length-drop from old))
    ∙ ap (λ x. B ++ x ∷ []) item in
    e ∙ (λ j. front j ++ u ∷ back j) ∙ append_assoc A B (u ∷ C)
    ∙ ap (λ l. A ++ l) (sym (append_assoc B (u ∷ []) C) ∙ ap (λ l. l ++ C) (sym more))
