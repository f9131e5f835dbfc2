-- The variants that are left, and their numbers.
use Rattle.std.proofs.Common.{◌≡◌, ℕ, zero, suc, ◌+◌, ◌<◌, Bool, true, false, List, [], ◌∷◌, ◌++◌, length, map, refl, ap, ◌∙◌, subst, if◌then◌else◌, ◌||◌, ◌≤◌, get_or, drop, arith}
use Rattle.std.specs.List.{AllByRecursion, list_any}
use Rattle.std.proofs.lemmas.List.{length-map, map-append}
use Rattle.iloc_spec_grammar.specs.Syntax.{Text, first_piece, Variant, IsWord, is_word, lower}
use Rattle.iloc_spec_grammar.proofs.PiecesLaws.{at_pieces}
use Rattle.iloc_spec_grammar.proofs.ReadBack.{all_append}
use Rattle.iloc_pieces.specs.Words.{word_number}
use Rattle.iloc_pieces.specs.Cursor.{IsNextPiece, bytes_left, piece_left, pieces_left}
use Rattle.iloc_pieces.specs.declared.place.Cursor.{Cursor}
use Rattle.iloc_pieces.proofs.CursorLemmas.{last_piece, short_variant}
use Rattle.iloc_pieces.proofs.WordOrder.{variant_fits, word_order}
use Rattle.iloc_faults.specs.States.{AreNew, are_same, first_variants, variants_left}
use Rattle.iloc_faults.specs.Numbers.{same, AreNumbersAt}
use Rattle.iloc_faults.proofs.NewNumbers.{drop_one}

-- ---- words and their numbers

-- words are the same if their numbers are
same_number : (p q : Text) → IsWord Variant p → IsWord Variant q →
    are_same (lower p) (lower q) ≡ same (word_number p) (word_number q)
same_number p q h k = grind (arith, word_order, variant_fits)

same_among : (p : Text) (qs : List Text) → IsWord Variant p → AllByRecursion (IsWord Variant) qs →
    list_any (are_same (lower p)) (map lower qs) ≡ list_any (same (word_number p)) (map word_number qs)
same_among p [] h k = refl
same_among p (q ∷ qs) h k = λ j. same_number p q h k.0 j || same_among p qs h k.1 j

-- as many words are new as numbers
pub new_words : (ps qs : List Text) (n : ℕ) → AllByRecursion (IsWord Variant) ps →
    AllByRecursion (IsWord Variant) qs → AreNew same (map word_number ps) (map word_number qs) n →
    AreNew are_same (map lower ps) (map lower qs) n
new_words ps [] n h k a = tt
new_words ps (q ∷ qs) zero h k a = same_among q ps k.0 h ∙ a
new_words ps (q ∷ qs) (suc n) h k a = (
  same_among q ps k.0 h ∙ a.0,
  subst (λ (ws : List Text). AreNew are_same ws (map lower qs) n) (map-append lower ps (q ∷ []))
      (new_words (ps ++ (q ∷ [])) qs n (all_append (IsWord Variant) ps (q ∷ []) h (k.0, tt)) k.1
      (grind (arith, map-append))),
)

-- ---- numbers at a place

first_number : (l : Cursor) (ps rest : List Text) (n : ℕ) (ns : List ℕ) → pieces_left l ≡ ps ++ rest →
    AllByRecursion (IsWord Variant) ps → n ∷ ns ≡ map word_number ps →
    IsWord Variant (piece_left l) × (word_number (piece_left l) ≡ n)
first_number l [] rest n ns cut h e = cc
first_number l (p ∷ ps) rest n ns cut h e = grind arith

pub number_here : {l : Cursor} {n : ℕ} {ns : List ℕ} → AreNumbersAt l (n ∷ ns) →
    IsWord Variant (piece_left l) × (word_number (piece_left l) ≡ n)
number_here {l} {n} {ns} a = first_number l a.words a.rest n ns a.cut a.variants a.numbers

later_numbers : (l m : Cursor) (ps rest : List Text) (n : ℕ) (ns : List ℕ) → pieces_left l ≡ ps ++ rest →
    AllByRecursion (IsWord Variant) ps → n ∷ ns ≡ map word_number ps →
    pieces_left l ≡ piece_left l ∷ pieces_left m → AreNumbersAt m ns
later_numbers l m [] rest n ns cut h e next = cc
later_numbers l m (p ∷ ps) rest n ns cut h e next = grind arith

pub numbers_next : {l m : Cursor} {n : ℕ} {ns : List ℕ} → IsNextPiece l m → AreNumbersAt l (n ∷ ns) →
    AreNumbersAt m ns
numbers_next h k = grind (arith, later_numbers)

no_numbers : (l : Cursor) → AreNumbersAt l []
no_numbers l = grind arith

last_numbers : (l : Cursor) (ps rest : List Text) (n : ℕ) (ns : List ℕ) → pieces_left l ≡ ps ++ rest →
    n ∷ ns ≡ map word_number ps → pieces_left l ≡ piece_left l ∷ [] → AreNumbersAt l ns
last_numbers l [] rest n ns cut e one = cc
last_numbers l (p ∷ []) rest n ns cut e one = grind (arith, no_numbers)
last_numbers l (p ∷ (q ∷ ps)) rest n ns cut e one = grind arith

pub numbers_last : {l : Cursor} {n : ℕ} {ns : List ℕ} → l.piece_length ≡ l.remaining
    → IsWord Variant (piece_left l) →
    AreNumbersAt l (n ∷ ns) → AreNumbersAt l ns
numbers_last h k e = grind (arith, last_numbers, last_piece, short_variant)

-- ---- the variants that are left

first_variants_are : (ps : List Text) → AllByRecursion (IsWord Variant) (first_variants ps)
first_variants_are [] = tt
first_variants_are (p ∷ ps) = grind (arith, first_variants_are ps)

first_variants_begin : (ps : List Text) → (rest : List Text) × (ps ≡ first_variants ps ++ rest)
first_variants_begin [] = ([], refl)
first_variants_begin (p ∷ ps) = by (is_word Variant p) refl (first_variants_begin ps)
  where
    by : (b : Bool) → is_word Variant p ≡ b → (rest : List Text) × (ps ≡ first_variants ps ++ rest) →
        (rest : List Text) × (p ∷ ps ≡ (if is_word Variant p then p ∷ first_variants ps else []) ++ rest)
    by true e r = rw e (r.0, ap (λ qs. p ∷ qs) r.1)
    by false e r = rw e (p ∷ ps, refl)

pub variants_are : (l : Cursor) → AllByRecursion (IsWord Variant) (variants_left l)
variants_are l = first_variants_are (pieces_left l)

pub variant_numbers : (l : Cursor) → AreNumbersAt l (map word_number (variants_left l))
variant_numbers l = let r = first_variants_begin (pieces_left l) in grind (arith, variants_are)

-- ---- how many they are

-- the pieces that are left begin with the first
pub some_left : (l : Cursor) → (rest : List Text) × (pieces_left l ≡ piece_left l ∷ rest)
some_left l =
    at_pieces (λ ps. (rest : List Text) × (ps ≡ first_piece ps ∷ rest)) (λ p ps. (ps, refl)) (bytes_left l)

-- the variant and those behind it
pub one_and_more : (l : Cursor) (ps : List Text) → pieces_left l ≡ piece_left l ∷ ps →
    is_word Variant (piece_left l) ≡ true → variants_left l ≡ piece_left l ∷ first_variants ps
one_and_more l ps e h = ap first_variants e ∙ rw h refl

pub one_alone : (l : Cursor) → l.piece_length ≡ l.remaining → is_word Variant (piece_left l) ≡ true →
    length (variants_left l) ≡ 1
one_alone l e h = grind (arith, one_and_more, last_piece, short_variant)

-- one alone is new
one_new : (ws : List Text) → length ws ≤ 1 → AreNew are_same [] ws (length ws)
one_new [] few = tt
one_new (w ∷ []) few = (refl, tt)
one_new (w ∷ (v ∷ ws)) few = absurd (omega (arith, few))

pub few_new : (l : Cursor) (n : ℕ) → n ≡ length (variants_left l) → n ≤ 1 →
    AreNew are_same [] (map lower (variants_left l)) n
few_new l n e few = grind (arith, length-map, one_new)

-- ---- by places

pub variant_at : (l : Cursor) (ns : List ℕ) (k : ℕ) → k < length ns → AreNumbersAt l (drop k ns) →
    AreNumbersAt l (get_or ns k 0 ∷ drop (k + 1) ns)
variant_at l ns k less a = grind (arith, drop_one)
