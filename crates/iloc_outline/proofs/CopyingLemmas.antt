-- Bytes that are copied in lower case, and letters that are raised.
use Rattle.std.proofs.Common.{◌≡◌, ◌≢◌, ℕ, zero, suc, ◌+◌, ◌<◌, ◌≤◌, [], ◌∷◌, ◌++◌, length, take, drop, refl, sym, ap, ◌∙◌, arith, append_assoc, append-nil, slice_index, slice_set}
use Rattle.std.specs.Char.{to_ascii_lowercase, to_ascii_uppercase}
use Rattle.std.proofs.Math.Seq.{take-add, take-append-add, take-nil, take-set-lt}
use Rattle.std.proofs.lemmas.List.{drop-drop, drop_all, get_or-take, length-take-le, map-append, take-map, take-take, take_all}
use Rattle.iloc_spec_grammar.specs.Syntax.{Text, lower, upper}
use Rattle.iloc_outline.specs.Identifier.{raised}

-- ---- lower case

-- the bytes from a place on, and more of them
lower_more : (w : Text) (at d k : ℕ) → lower (take (d + k) (drop at w))
    ≡ lower (take d (drop at w)) ++ lower (take k (drop (at + d) w))
unfolding lower
lower_more w at d k = simp (take-add, drop-drop, map-append)

-- what was copied grows by what stands behind it
pub copied_more : (w F to news : Text) (at s d k : ℕ) → take (s + d) to ≡ F ++ lower (take d (drop at w))
    → take (s + d + k) news ≡ take (s + d) to ++ lower (take k (drop (at + d) w)) → take (s + (d + k)) news
    ≡ F ++ lower (take (d + k) (drop at w))
copied_more w F to news at s d k before step = grind (arith, append_assoc, lower_more)

-- the first of the bytes that were copied
pub copied_first : (w F to : Text) (at s d k : ℕ) → k ≤ d → length F ≡ s → take (s + d) to
    ≡ F ++ lower (take d (drop at w)) → take (s + k) to ≡ F ++ lower (take k (drop at w))
unfolding lower
copied_first w F to at s d k few long is =
    let part = drop at w in
    sym (take-take (s + k) (s + d) to (omega arith)) ∙ ap (take (s + k)) is
    ∙ ap (λ n. take (n + k) (F ++ lower (take d part))) (sym long)
    ∙ take-append-add F (lower (take d part)) k
    ∙ ap (λ l. F ++ l) (search (take-map, take-take))

-- one byte in lower case
pub lower_one : (w : Text) (i : ℕ) → i < length w → lower (take 1 (drop i w))
    ≡ to_ascii_lowercase (slice_index w i) ∷ []
unfolding lower
lower_one [] i l = absurd (omega arith)
lower_one (b ∷ w) zero l = refl
lower_one (b ∷ w) (suc i) l = lower_one w i (omega arith)

-- ---- letters that are raised

one : (u : Text) (k m : ℕ) → m ≡ k + 1 → k < length u → slice_set u k (to_ascii_uppercase (slice_index u k))
    ≡ take k u ++ (upper (take 1 (drop k u)) ++ drop m u)
unfolding upper
one [] k m e l = absurd (omega arith)
one (b ∷ u) zero m e l = grind arith
one (b ∷ u) (suc k) zero e l = absurd (omega arith)
one (b ∷ u) (suc k) (suc m) e l = ap (λ r. b ∷ r) (one u k m (omega arith) (omega arith))

last : (u : Text) (k m : ℕ) → m ≡ k + 2 → length u ≡ suc k
    → slice_set u k (to_ascii_uppercase (slice_index u k))
    ≡ take k u ++ (upper (take 2 (drop k u)) ++ drop m u)
unfolding upper
last [] k m e l = absurd (omega arith)
last (b ∷ []) zero m e l = grind arith
last (b ∷ c ∷ u) zero m e l = absurd (omega arith)
last (b ∷ u) (suc k) zero e l = absurd (omega arith)
last (b ∷ u) (suc k) (suc m) e l = ap (λ r. b ∷ r) (last u k m (omega arith) (omega arith))

two : (u : Text) (k j m : ℕ) → j ≡ k + 1 → m ≡ k + 2 → j < length u
    → slice_set (slice_set u k (to_ascii_uppercase (slice_index u k))) j
    (to_ascii_uppercase (slice_index (slice_set u k (to_ascii_uppercase (slice_index u k))) j))
    ≡ take k u ++ (upper (take 2 (drop k u)) ++ drop m u)
unfolding upper
two [] k j m f e l = absurd (omega arith)
two (b ∷ []) k j m f e l = absurd (omega arith)
two (b ∷ c ∷ u) zero j m f e l = grind arith
two (b ∷ u) (suc k) zero m f e l = absurd (omega arith)
two (b ∷ u) (suc k) (suc j) zero f e l = absurd (omega arith)
two (b ∷ u) (suc k) (suc j) (suc m) f e l = simp (two u k j m (omega arith) (omega arith) (omega arith))

is_raised : (n at m : ℕ) (u : Text) → at ≢ 0 → m ≡ at + n → raised n at u
    ≡ take at u ++ (upper (take n (drop at u)) ++ drop m u)
is_raised n zero m u some e = absurd (some refl)
is_raised n (suc k) m u some e = grind arith

-- nothing is raised behind the end, nor at 0
pub raised_none : (n at : ℕ) (u : Text) → length u ≤ at → raised n at u ≡ u
unfolding upper
raised_none n zero u l = refl
raised_none n (suc k) u l = grind (arith, drop_all, take-nil, take_all, append-nil)

module _ (to : Text) (end at : ℕ) (some : at ≢ 0) (inside : end ≤ length to) (more : at < end) where
  long : length (take end to) ≡ end
  long = length-take-le end to inside

  front : take end (slice_set to at (to_ascii_uppercase (slice_index to at)))
      ≡ slice_set (take end to) at (to_ascii_uppercase (slice_index (take end to) at))
  front = search (take-set-lt, get_or-take)

  pub raised_one : take end (slice_set to at (to_ascii_uppercase (slice_index to at)))
      ≡ raised 1 at (take end to)
  raised_one = grind (arith, front, one, long, is_raised)

  pub raised_last : end ≤ at + 1 → take end (slice_set to at (to_ascii_uppercase (slice_index to at)))
      ≡ raised 2 at (take end to)
  raised_last m = grind (arith, front, last, long, is_raised)

  pub raised_both : (t : Text) → t ≡ slice_set to at (to_ascii_uppercase (slice_index to at)) → at + 1 < end
      → take end (slice_set t (at + 1) (to_ascii_uppercase (slice_index t (at + 1))))
      ≡ raised 2 at (take end to)
  raised_both t is l =
      let u = take end to in
      let same : take end t ≡ slice_set u at (to_ascii_uppercase (slice_index u at)) =
      ap (take end) is ∙ front in
      take-set-lt end t (at + 1) (to_ascii_uppercase (slice_index t (at + 1))) l
      ∙ ap (λ b. slice_set (take end t) (at + 1) (to_ascii_uppercase b))
      (sym (get_or-take end t (at + 1) 0 l))
      ∙ ap (λ v. slice_set v (at + 1) (to_ascii_uppercase (slice_index v (at + 1)))) same
      ∙ two u at (at + 1) (at + 2) refl refl (omega (arith, long)) ∙ sym (is_raised 2 at (at + 2) u some refl)
