-- Parts that are written one after the other.
use Rattle.std.proofs.Common.{◌≡◌, ℕ, ◌+◌, ◌-◌, ◌≤◌, ◌++◌, length, take, drop, ◌∙◌, arith}
use Rattle.std.proofs.lemmas.List.{length-drop, length-take-le, take-take}
use Rattle.std.proofs.lemmas.Slice.{take-put_mid}
use borrow.Rule.Slice.PartMut.{put_mid, same_len_mid}
use Rattle.iloc_spec_grammar.specs.Syntax.{Text, lower}
use Rattle.iloc_spec_grammar.proofs.WordsLaws.{length-lower}
use Rattle.iloc_normalize.specs.Subdivisions.{bytes_at}

-- bytes of a window from a place on, as they are cut from the rest
pub cut_bytes : (w : Text) (at n : ℕ) → at + n ≤ length w
    → take n (take (length w - at) (drop at w)) ≡ bytes_at w at n
cut_bytes w at n inside = take-take n (length w - at) (drop at w) (omega (arith, inside))

pub length-bytes_at : (w : Text) (at n : ℕ) → at + n ≤ length w → length (bytes_at w at n) ≡ n
length-bytes_at w at n inside = let d = length-drop at w in length-take-le n (drop at w) (omega arith)

-- two parts
pub put_two : (to a b : Text) (start i j n : ℕ) → length a ≡ i → length b ≡ j → start + i + j ≤ length to
    → n ≡ start + i + j
    → (k : ℕ) → k ≡ i → (m : ℕ) → m ≡ j
    → take n (put_mid (start + i) m (put_mid start k to a) b) ≡ (take start to ++ a) ++ b
put_two to a b start i j n la lb room e k is m same =
    let long : length (put_mid start k to a) ≡ length to =
    same_len_mid start k to a (grind (arith, length-take-le, length-drop)) in
    grind (arith, take-put_mid)

-- bytes of a window in lower case
pub length-low : (w : Text) (at n : ℕ) → at + n ≤ length w → length (lower (bytes_at w at n)) ≡ n
length-low w at n inside = length-lower (bytes_at w at n) ∙ length-bytes_at w at n inside
