-- From a mask of sixteen bytes to those that come first.
use Rattle.std.proofs.Common.{◌≡◌, ℕ, ◌<◌, ◌≤◌, Bool, true, false, not, List, [], ◌∷◌, ◌++◌, length, get_or, take, refl, sym, ap, ◌∙◌, arith, length-append}
use Rattle.std.specs.List.{prefix_len}
use Rattle.std.proofs.lemmas.List.{length-take-le, get_or-take}
use Rattle.std.proofs.lemmas.List.Sums.{prefix_len_passes, prefix_len_stops, prefix_len-le-length}
use lib.Lanes.{mask_l}
use Rattle.iloc_pieces.specs.Run.{IsRun}
use Rattle.iloc_spec_grammar.specs.Syntax.{Text}

-- the bytes before the first that is marked are a run
pub run_is : (p q : ℕ → Bool) (w : Text) (n : ℕ) → 16 ≤ length w → ((b : ℕ) → not (p b) ≡ q b)
    → n ≡ prefix_len (λ b. not (p b)) (take 16 w) → IsRun q w n
run_is p q w n wide same e =
    let r : ℕ → Bool = λ b. not (p b) in
    let long : length (take 16 w) ≡ 16 = length-take-le 16 w wide in
    let le : prefix_len r (take 16 w) ≤ length (take 16 w) = prefix_len-le-length r (take 16 w) in
    record {
      few = omega arith;
      pass = λ i less.
          let inside : i < prefix_len r (take 16 w) = omega arith in
          let small : i < 16 = omega arith in
          sym (same (get_or w i 0)) ∙ ap r (sym (get_or-take 16 w i 0 small))
          ∙ prefix_len_passes r (take 16 w) i 0 inside;
      ends = λ less.
          let inside : prefix_len r (take 16 w) < length (take 16 w) = omega arith in
          sym (same (get_or w n 0)) ∙ ap r (sym (get_or-take 16 w n 0 less))
          ∙ ap (λ i. r (get_or (take 16 w) i 0)) e ∙ prefix_len_stops r (take 16 w) 0 inside;
    }

pub twice : (b : Bool) → not (not b) ≡ b
twice true = refl
twice false = refl

-- ---- after three bytes

-- marks of bytes that are added and not marked change nothing
unmarked : (ms : List Bool) → mask_l (ms ++ false ∷ false ∷ false ∷ []) ≡ mask_l ms
unmarked [] = refl
unmarked (m ∷ ms) = grind (arith, unmarked ms)

-- thirteen bytes, and three that no test marks
abbrev pub padded : Text → Text
padded w = take 13 w ++ 97 ∷ 97 ∷ 97 ∷ []

pub length-padded : (w : Text) → 13 ≤ length w → length (padded w) ≡ 16
length-padded w wide = grind (arith, length-append, length-take-le)
