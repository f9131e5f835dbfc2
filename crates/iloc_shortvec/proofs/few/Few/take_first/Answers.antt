use Rattle.std.proofs.Common.{◌≡◌, ℕ, zero, suc, ◌≤◌, List, [], ◌∷◌, ◌++◌, take, drop, refl, sym, ap, ◌∙◌, arith}
use Rattle.iloc_shortvec.proofs.few.Few.take_first.Goals as goal

take_fewer : {T : Type 0} (n m : ℕ) (ys : List T) → n ≤ m → take n (take m ys) ≡ take n ys
take_fewer zero m ys l = refl
take_fewer (suc n) zero ys l = absurd (omega arith)
take_fewer (suc n) (suc m) [] l = refl
take_fewer (suc n) (suc m) (y ∷ ys) l = ap (λ zs. y ∷ zs) (take_fewer n m ys (omega arith))

-- the first cell, and as many as are left of the others
shifted : {T : Type 0} (xs ys : List T) (n : ℕ) (x : T) → take 1 xs ≡ x ∷ [] → take 3 ys ≡ drop 1 xs →
    n ≤ 3 → take (suc n) xs ≡ x ∷ take n ys
shifted [] ys n x p q l = cc
shifted (z ∷ zs) ys n x p q l =
    ap (λ ws. z ∷ ws) (ap (take n) (sym q) ∙ take_fewer n 3 ys l) ∙ ap (λ ws. ws ++ take n ys) p

pub returns : goal.returns
returns g c =
    let e : c.args.count.now ≡ suc c.of.result = omega arith in
    ap (λ n. take n c.args.self.now) e
    ∙ shifted c.args.self.now c.after_first.result c.of.result c.first-item.result c.first-item.ensures
    c.after_first.ensures (omega arith)
