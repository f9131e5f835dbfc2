-- Pieces with hyphens between them.
use Rattle.std.proofs.Common.{◌≡◌, ℕ, zero, suc, ◌+◌, ◌<◌, Bool, true, false, not, ◌&&◌, ◌||◌, List, [], ◌∷◌, ◌++◌, length, take, drop, get_or, refl, sym, ap, ◌∙◌, append_assoc, append-nil, add-one, arith}
use Rattle.std.proofs.lemmas.Grind.{flat_map-append}
use Rattle.std.proofs.Math.Seq.{take-suc}
use Rattle.std.specs.List.{flat_map, join_with_byte}
use Rattle.iloc_writeable.specs.Pieces.{hyphened, is_there}
use Rattle.std.proofs.Math.Bool.{or-true}

-- the first piece, and each other after a hyphen
pub join-cons : (p : List ℕ) (ps : List (List ℕ)) → join_with_byte 45 (p ∷ ps) ≡ p ++ hyphened false ps
join-cons p [] = sym (append-nil p)
join-cons p (q ∷ ps) = ap (λ t. p ++ 45 ∷ t) (join-cons q ps)

-- some pieces, and those that follow them
pub hyphened-append : (first : Bool) (ps qs : List (List ℕ)) →
    hyphened first (ps ++ qs) ≡ hyphened first ps ++ hyphened (first && not (is_there ps)) qs
hyphened-append true [] qs = refl
hyphened-append true (p ∷ ps) qs =
    join-cons p (ps ++ qs)
    ∙ ap (λ t. p ++ t) (flat_map-append (λ q. 45 ∷ q) ps qs)
    ∙ sym (append_assoc p (hyphened false ps) (hyphened false qs))
    ∙ ap (λ t. t ++ hyphened false qs) (sym (join-cons p ps))
hyphened-append false ps qs = flat_map-append (λ q. 45 ∷ q) ps qs

pub hyphened-one : (p : List ℕ) → (45 ∷ []) ++ p ≡ hyphened false (p ∷ [])
hyphened-one p = ap (λ t. 45 ∷ t) (sym (append-nil p))

pub is_there-append : (ps qs : List (List ℕ)) → is_there (ps ++ qs) ≡ (is_there ps || is_there qs)
is_there-append [] qs = refl
is_there-append (p ∷ ps) qs = refl

-- the items' lists before a place, the one there, and those after it
pub flat_map-at : {A X : Type 0} (f : A → List X) (xs : List A) (i : ℕ) (x : A) → i < length xs →
    x ≡ get_or xs i x → flat_map f (take i xs) ++ (f x ++ flat_map f (drop (suc i) xs)) ≡ flat_map f xs
flat_map-at f [] i x h e = absurd (omega (arith, h))
flat_map-at f (y ∷ ys) zero x h e = ap (λ z. f z ++ flat_map f ys) e
flat_map-at f (y ∷ ys) (suc i) x h e =
    append_assoc (f y) (flat_map f (take i ys)) (f x ++ flat_map f (drop (suc i) ys))
    ∙ ap (λ l. f y ++ l) (flat_map-at f ys i x (omega (arith, h)) e)

-- the pieces of the items before a place, of the one there, and of those after it
pub hyphened-at : {A : Type 0} (f : A → List (List ℕ)) (first here : Bool) (xs : List A) (i : ℕ) (x : A) →
    i < length xs → x ≡ get_or xs i x → here ≡ (first && not (is_there (flat_map f (take i xs))))
    → hyphened first (flat_map f (take i xs))
    ++ (hyphened here (f x) ++ hyphened (here && not (is_there (f x))) (flat_map f (drop (suc i) xs)))
    ≡ hyphened first (flat_map f xs)
hyphened-at f first here xs i x h e k =
    let before = flat_map f (take i xs) in
    let after = flat_map f (drop (suc i) xs) in
    ap (λ t. hyphened first before ++ t)
    (sym (hyphened-append here (f x) after) ∙ ap (λ b. hyphened b (f x ++ after)) k)
    ∙ sym (hyphened-append first before (f x ++ after))
    ∙ ap (hyphened first) (flat_map-at f xs i x h e)

-- one item more
pub flat_map-next : {A X : Type 0} (f : A → List X) (xs : List A) (i : ℕ) (x : A) → i < length xs →
    x ≡ get_or xs i x → flat_map f (take (i + 1) xs) ≡ flat_map f (take i xs) ++ f x
flat_map-next f xs i x h e =
    ap (λ n. flat_map f (take n xs)) (add-one i)
    ∙ ap (flat_map f) (take-suc xs i x h ∙ ap (λ y. take i xs ++ y ∷ []) (sym e))
    ∙ flat_map-append f (take i xs) (x ∷ [])
    ∙ ap (λ t. flat_map f (take i xs) ++ t) (append-nil (f x))

pub hyphened-next : {A : Type 0} (f : A → List (List ℕ)) (first here : Bool) (xs : List A) (i : ℕ) (x : A) →
    i < length xs → x ≡ get_or xs i x → here ≡ (first && not (is_there (flat_map f (take i xs))))
    → hyphened first (flat_map f (take i xs)) ++ hyphened here (f x)
    ≡ hyphened first (flat_map f (take (i + 1) xs))
hyphened-next f first here xs i x h e k =
    ap (λ b. hyphened first (flat_map f (take i xs)) ++ hyphened b (f x)) k
    ∙ sym (hyphened-append first (flat_map f (take i xs)) (f x))
    ∙ ap (hyphened first) (sym (flat_map-next f xs i x h e))

pub first-next : {A : Type 0} (f : A → List (List ℕ)) (first here : Bool) (xs : List A) (i : ℕ) (x : A) →
    i < length xs → x ≡ get_or xs i x → here ≡ (first && not (is_there (flat_map f (take i xs))))
    → (here && not (is_there (f x))) ≡ (first && not (is_there (flat_map f (take (i + 1) xs))))
first-next f first here xs i x h e k =
    ap (λ b. b && not (is_there (f x))) k
    ∙ both_absent first (is_there (flat_map f (take i xs))) (is_there (f x))
    ∙ ap (λ b. first && not b)
    (sym (ap is_there (flat_map-next f xs i x h e) ∙ is_there-append (flat_map f (take i xs)) (f x)))
  where
    both_absent : (a b c : Bool) → ((a && not b) && not c) ≡ (a && not (b || c))
    both_absent false b c = refl
    both_absent true false c = refl
    both_absent true true c = refl

pub is_there-at : {A : Type 0} (f : A → List (List ℕ)) (xs : List A) (i : ℕ) (x : A) → i < length xs →
    x ≡ get_or xs i x → is_there (f x) ≡ true → true ≡ is_there (flat_map f xs)
is_there-at f xs i x h e t =
    let before = flat_map f (take i xs) in
    let after = flat_map f (drop (suc i) xs) in
    sym (
    ap is_there (sym (flat_map-at f xs i x h e))
    ∙ is_there-append before (f x ++ after)
    ∙ ap (λ b. is_there before || b) (is_there-append (f x) after ∙ ap (λ b. b || is_there after) t)
    ∙ or-true (is_there before)
    )

-- words are a piece each
pub flat_map_words : (ws : List (List ℕ)) → flat_map (λ w. w ∷ []) ws ≡ ws
flat_map_words [] = refl
flat_map_words (w ∷ ws) = ap (λ vs. w ∷ vs) (flat_map_words ws)
