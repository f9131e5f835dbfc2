-- Parts that are copied one after the other.
use Rattle.std.proofs.Common.{◌≡◌, ℕ, zero, suc, ◌+◌, ◌-◌, ◌≤◌, [], ◌∷◌, ◌++◌, length, take, drop, refl, sym, ap, ◌∙◌, arith, length-drop, length-take-le}
use Rattle.std.proofs.lemmas.List.{take-take, take-map, map-append}
use Rattle.std.proofs.lemmas.Slice.{take-put_mid}
use borrow.Rule.Slice.PartMut.{put_mid, same_len_mid}
use Rattle.std.specs.Char.{to_ascii_lowercase}
use Rattle.iloc_spec_grammar.specs.Syntax.{Text, lower}
use Rattle.iloc_spec_grammar.proofs.WordsLaws.{length-lower}

take_nothing : (n : ℕ) → ◌≡◌ {A = Text} (take n []) []
take_nothing zero = refl
take_nothing (suc n) = refl

-- the first bytes, and more of them
pub take_two : (a b : ℕ) (t : Text) → take (a + b) t ≡ take a t ++ take b (drop a t)
take_two zero b t = let same : 0 + b ≡ b = omega arith in ap (λ (m : ℕ). take m t) same
take_two (suc a) b [] = take_nothing (suc a + b) ∙ sym (take_nothing b)
take_two (suc a) b (x ∷ t) = let one : suc a + b ≡ suc (a + b) = omega arith in
    ap (λ (m : ℕ). take m (x ∷ t)) one ∙ ap (λ l. x ∷ l) (take_two a b t)

-- bytes in lower case, and more of them
pub lower_two : (a b : ℕ) (t : Text) →
    lower (take a t) ++ lower (take b (drop a t)) ≡ lower (take (a + b) t)
unfolding lower
lower_two a b t = search (map-append, take_two)

-- the first of the sixteen bytes that stand at a place
pub lower_part : (n a : ℕ) (t : Text) → n ≤ 16 → a + 16 ≤ length t
    → take n (lower (take 16 (take (length t - a) (drop a t)))) ≡ lower (take n (drop a t))
unfolding lower
lower_part n a t few room =
    take-map to_ascii_lowercase n (take 16 (take (length t - a) (drop a t)))
    ∙ ap lower (take-take n 16 (take (length t - a) (drop a t)) few
    ∙ take-take n (length t - a) (drop a t) (omega (arith, few, room)))

-- one part more, of k bytes up to the n-th
module _ (at k n count : ℕ) (from to part : Text) (few : k ≤ 16) (sum : n ≡ at + k) (fits : n ≤ count)
    (bytes : count + 16 ≤ length from)
    (room : length to ≡ count)
    (is : part ≡ take k (lower (take 16 (take (length from - at) (drop at from))))) where
  is_lower : part ≡ lower (take k (drop at from))
  is_lower = is ∙ lower_part k at from few (omega (arith, sum, fits, bytes))

  long : length part ≡ k
  long = grind (arith, is_lower, length-lower, length-take-le, length-drop)

  pub same_room : length (put_mid at k to part) ≡ count
  same_room = same_len_mid at k to part (grind (arith, long, length-take-le, length-drop)) ∙ room

  pub copied_more : take at to ≡ lower (take at from) → take n (put_mid at k to part) ≡ lower (take n from)
  copied_more before = grind (arith, take-put_mid, long, is_lower, lower_two)

-- sixteen bytes are all of the sixteen
pub sixteen : (k : ℕ) (t part : Text) → k ≡ 16 → part ≡ lower (take 16 t) →
    part ≡ take k (lower (take 16 t))
unfolding lower
sixteen k t part e is = grind arith
