-- A text has exactly one list of pieces.
use Rattle.std.proofs.Common.{All, arith, ◌≡◌, ◌≢◌, ℕ, Bool, false, ◌==◌, List, [], ◌∷◌, ◌++◌, refl}
use Rattle.std.specs.List.{slice_split, onto_first, list_any, AllByRecursion}
use Rattle.std.proofs.lemmas.List.Splits.{join_with_byte-slice_split}
use Rattle.std.proofs.lemmas.Bool.{or_parts, or_from, false_from_ne_true, cond_both}
use Rattle.std.proofs.lemmas.Bool.Decides.{nat_tests}
use Rattle.std.proofs.lemmas.List.Elements.{recursion_from_All}
use Rattle.iloc_spec_grammar.specs.Syntax.{Text, pieces, join, IsHyphenFree, ArePieces}

abbrev hyphen : ℕ → Bool
hyphen b = b == 45

pieces_cut : (p rest : Text) → IsHyphenFree p →
    slice_split hyphen (p ++ 45 ∷ rest) ≡ p ∷ slice_split hyphen rest
pieces_cut [] rest h = refl
pieces_cut (c ∷ p) rest h =
    let parts = or_parts (c == 45) (list_any hyphen p) h in rw (parts.0, pieces_cut p rest parts.1)

pieces_whole : (p : Text) → IsHyphenFree p → slice_split hyphen p ≡ p ∷ []
pieces_whole [] h = refl
pieces_whole (c ∷ p) h =
    let parts = or_parts (c == 45) (list_any hyphen p) h in rw (parts.0, pieces_whole p parts.1)

pub pieces-join : (p : Text) (ps : List Text) → AllByRecursion IsHyphenFree (p ∷ ps) →
    pieces (join (p ∷ ps)) ≡ p ∷ ps
unfolding pieces join
pieces-join p [] h = pieces_whole p h.0
pieces-join p (q ∷ ps) h = search (pieces_cut, pieces-join q ps h.1)

onto_nonempty : (c : ℕ) (ps : List Text) → onto_first c ps ≢ []
onto_nonempty c [] e = cc
onto_nonempty c (p ∷ ps) e = cc

pub pieces_nonempty : (t : Text) → pieces t ≢ []
unfolding pieces
pieces_nonempty [] e = cc
pieces_nonempty (c ∷ t) e = grind (arith, onto_nonempty)

-- what holds of each list with a piece holds of the pieces of a text
pub at_pieces : (P : List Text → Type 0) → ((p : Text) (ps : List Text) → P (p ∷ ps)) →
    (t : Text) → P (pieces t)
at_pieces P f t = (elim (pieces t) as (λ ps. pieces t ≡ ps → P ps)
    [ [] ↦ λ e. absurd (pieces_nonempty t e) | p ∷ ps ↦ λ e. f p ps ]) refl

onto_hyphen_free : (c : ℕ) (ps : List Text) → (c == 45) ≡ false → AllByRecursion IsHyphenFree ps →
    AllByRecursion IsHyphenFree (onto_first c ps)
onto_hyphen_free c [] e h = (or_from _ _ e refl, tt)
onto_hyphen_free c (p ∷ ps) e h = (or_from _ _ e h.0, h.1)

pub pieces_hyphen_free : (t : Text) → AllByRecursion IsHyphenFree (pieces t)
unfolding pieces
pieces_hyphen_free [] = (refl, tt)
pieces_hyphen_free (c ∷ t) = grind (arith, cond_both, onto_hyphen_free, pieces_hyphen_free t)

pub join-pieces : (t : Text) → join (pieces t) ≡ t
unfolding pieces join
join-pieces t = join_with_byte-slice_split 45 t

pub pieces_are : (t : Text) → ArePieces t (pieces t)
pieces_are t = search (pieces_nonempty, pieces_hyphen_free, join-pieces)

pub pieces_unique : (t : Text) (ps : List Text) → ArePieces t ps → ps ≡ pieces t
pieces_unique t [] h = absurd (h.nonempty refl)
pieces_unique t (p ∷ ps) h = grind (arith, pieces-join)

no_hyphen : (c : ℕ) → c ≢ 45 → (c == 45) ≡ false
no_hyphen c h = false_from_ne_true _ (λ e. h (grind (arith, nat_tests)))

hyphen_free : (p : Text) → AllByRecursion (λ c. c ≢ 45) p → IsHyphenFree p
hyphen_free [] h = refl
hyphen_free (c ∷ p) h = or_from _ _ (no_hyphen c h.0) (hyphen_free p h.1)

-- the text is cut at its first hyphen
pub pieces-cut : (p rest : Text) → All (λ c. c ≢ 45) p → pieces (p ++ 45 ∷ rest) ≡ p ∷ pieces rest
unfolding pieces
pieces-cut p rest h = simp (pieces_cut, hyphen_free, recursion_from_All)

pub pieces-uncut : (p : Text) → All (λ c. c ≢ 45) p → pieces p ≡ p ∷ []
unfolding pieces
pieces-uncut p h = simp (pieces_whole, hyphen_free, recursion_from_All)
