-- The first piece of a text, by its length.
use Rattle.std.proofs.Common.{◌≡◌, ◌≢◌, ◌<◌, ◌==◌, ◌∙◌, arith, suc, cond, [], ◌∷◌, ◌++◌, length, take, drop, true, false, All, sym, ap, refl}
use Rattle.std.proofs.lemmas.Bool.{false_from_ne_true}
use Rattle.std.proofs.lemmas.Bool.Decides.{nat_tests}
use Rattle.iloc_spec_grammar.specs.Syntax.{Text, pieces}
use Rattle.iloc_spec_grammar.proofs.PiecesLaws.{pieces-cut, pieces-uncut}
use Rattle.iloc_subtags.specs.FirstLength.{IsFirstLength}

front : (p xs : Text) → take (length p) (p ++ xs) ≡ p
front [] xs = refl
front (c ∷ p) xs = ap (λ q. c ∷ q) (front p xs)

whole : (t : Text) → take (length t) t ≡ t
whole [] = refl
whole (c ∷ t) = ap (λ q. c ∷ q) (whole t)

later : (p rest : Text) → drop (suc (length p)) (p ++ 45 ∷ rest) ≡ rest
later [] rest = refl
later (c ∷ p) rest = later p rest

longer : (p rest : Text) → length p < length (p ++ 45 ∷ rest)
longer [] rest = omega arith
longer (c ∷ p) rest = omega (arith, longer p rest)

ends_before : (p rest : Text) → (length p == length (p ++ 45 ∷ rest)) ≡ false
ends_before p rest =
    false_from_ne_true _ (λ e. let same : length p ≡ length (p ++ 45 ∷ rest) = grind (arith, nat_tests, e) in
    absurd (omega (arith, longer p rest, same)))

ends : (t : Text) → (length t == length t) ≡ true
ends t = grind (arith, nat_tests)

pub before_hyphen : (t p rest : Text) → All (λ c. c ≢ 45) p → t ≡ p ++ 45 ∷ rest →
    IsFirstLength t (length p)
before_hyphen t p rest h e = rw e (pieces-cut p rest h
    ∙ sym (λ i. front p (45 ∷ rest) i ∷ cond (ends_before p rest i) [] (pieces (later p rest i))))

pub without_hyphen : (t : Text) → All (λ c. c ≢ 45) t → IsFirstLength t (length t)
without_hyphen t h =
    pieces-uncut t h ∙ sym (λ i. whole t i ∷ cond (ends t i) [] (pieces (drop (suc (length t)) t)))
