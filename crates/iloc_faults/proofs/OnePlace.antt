-- A text has one place of its fault.
use Rattle.std.proofs.Common.{◌≡◌, ◌⊎◌, inl, inr, ℕ, List, [], ◌∷◌, ◌++◌, refl, sym, ◌∙◌, subst, append_assoc, arith}
use Rattle.iloc_spec_grammar.specs.Syntax.{Text}
use Rattle.iloc_normalize.specs.declared.Mode.{Mode}
use Rattle.iloc_faults.specs.Places.{GoOn, StandsAtPiece, StandsAtEnd, IsFaultPlace}

-- fewer pieces go on too
pub fewer : {mode : Mode} (ps qs : List Text) → GoOn mode (ps ++ qs) → GoOn mode ps
fewer ps qs g = grind (arith, append_assoc)

-- two fronts of the same pieces, each followed by one more: they are equal, or one of them begins with the
-- other and its piece
same_cut : (xs ys : List Text) (p q : Text) (ps qs : List Text) → xs ++ (p ∷ ps) ≡ ys ++ (q ∷ qs)
    → ((xs ≡ ys) × (p ≡ q))
    ⊎ (((zs : List Text) × (ys ≡ (xs ++ (p ∷ [])) ++ zs))
    ⊎ ((zs : List Text) × (xs ≡ (ys ++ (q ∷ [])) ++ zs)))
same_cut [] [] p q ps qs e = inl (refl, cc)
same_cut [] (y ∷ ys) p q ps qs e = inr (inl (ys, cc))
same_cut (x ∷ xs) [] p q ps qs e = inr (inr (xs, cc))
same_cut (x ∷ xs) (y ∷ ys) p q ps qs e = grind (arith, same_cut xs ys p q ps qs cc)

at_pieces : {mode : Mode} {t : Text} {a b c d : ℕ} → StandsAtPiece mode t a b → StandsAtPiece mode t c d →
    (a ≡ c) × (b ≡ d)
at_pieces x y = grind (arith, same_cut, fewer)

piece_and_end : {mode : Mode} {t : Text} {a b c d : ℕ} → StandsAtPiece mode t a b → StandsAtEnd mode t c d → ⊥
piece_and_end x y = x.no_longer (fewer (x.before ++ (x.piece ∷ [])) x.after
    (subst (GoOn _) (x.cut ∙ sym (append_assoc x.before (x.piece ∷ []) x.after)) y.go_on))

pub one_place : (mode : Mode) (t : Text) (a b c d : ℕ) → IsFaultPlace mode t a b → IsFaultPlace mode t c d →
    (a ≡ c) × (b ≡ d)
one_place mode t a b c d (inl x) (inl y) = at_pieces x y
one_place mode t a b c d (inl x) (inr y) = absurd (piece_and_end x y)
one_place mode t a b c d (inr x) (inl y) = absurd (piece_and_end y x)
one_place mode t a b c d (inr x) (inr y) = grind arith
