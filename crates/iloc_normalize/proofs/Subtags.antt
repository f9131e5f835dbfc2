-- What the pieces of a value are: `true`, and at most one other.
use Rattle.std.proofs.Common.{◌≡◌, ℕ, suc, ◌+◌, ◌≤◌, Bool, true, false, cond, not, ◌&&◌, nat_le, List, [], ◌∷◌, length, refl, sym, ap, ◌∙◌, arith, true≢false}
use Rattle.std.specs.List.{list_all}
use Rattle.std.proofs.lemmas.Bool.{and_parts, and_right, lt-leb}
use Rattle.iloc_spec_grammar.specs.Syntax.{Text, Attribute, is_word, IsWord, is_true, lower, pieces, first_piece}
use Rattle.iloc_spec_grammar.specs.Meaning.{normal_values}
use Rattle.iloc_spec_grammar.specs.Reading.{rest_of}
use Rattle.iloc_spec_grammar.proofs.PiecesLaws.{at_pieces}
use Rattle.iloc_pieces.specs.Cursor.{IsNextPiece, IsShortPiece, piece_left, pieces_left, bytes_left}
use Rattle.iloc_pieces.specs.declared.place.Cursor.{Cursor}
use Rattle.iloc_pieces.proofs.CursorLemmas.{next_at, short_attribute}
use Rattle.iloc_normalize.specs.Subdivisions.{IsOnly, are_trues, has_small_value}
use Rattle.iloc_pieces.proofs.FrontLemmas.{values_true}

-- ---- lists of pieces

values_other : (p : Text) (ps : List Text) → is_true (lower p) ≡ false
    → normal_values (p ∷ ps) ≡ lower p ∷ normal_values ps
values_other p ps e =
    ap (λ (b : Bool). cond (not b) (lower p ∷ normal_values ps) (normal_values ps)) e

all_trues : (ps : List Text) → are_trues ps ≡ true
    → (list_all (is_word Attribute) ps ≡ true) × (normal_values ps ≡ [])
all_trues [] e = (refl, refl)
all_trues (p ∷ ps) e =
    grind (arith, all_trues ps (and_parts (is_word Attribute p && is_true (lower p)) (are_trues ps) e).1)

abbrev tests : Bool → ℕ → Bool
tests a n = a && nat_le (suc n) 1

-- with one more that is not `true`, others than these are too many
one_more : (ps : List Text) → are_trues ps ≡ false
    → tests (list_all (is_word Attribute) ps) (length (normal_values ps)) ≡ false
one_more [] e = absurd (true≢false e)
one_more (p ∷ ps) e = by (one_more ps) (is_word Attribute p) refl (is_true (lower p)) refl
  where
    all : Bool → Bool
    all a = a && list_all (is_word Attribute) ps

    by : (are_trues ps ≡ false
        → tests (list_all (is_word Attribute) ps) (length (normal_values ps)) ≡ false)
        → (a : Bool) → is_word Attribute p ≡ a → (t : Bool) → is_true (lower p) ≡ t
        → tests (list_all (is_word Attribute) (p ∷ ps)) (length (normal_values (p ∷ ps))) ≡ false
    by later false a t x = ap (λ (b : Bool). tests (all b) (length (normal_values (p ∷ ps)))) a
    by later true a true x =
        (λ j. tests (all (a j)) (length (values_true p ps x j)))
        ∙ later (sym (λ j. (a j && x j) && are_trues ps) ∙ e)
    by later true a false x =
        (λ j. tests (all (a j)) (length (values_other p ps x j)))
        ∙ and_right (list_all (is_word Attribute) ps) (nat_le (suc (suc (length (normal_values ps)))) 1)
        (lt-leb (suc (suc (length (normal_values ps)))) 1 (omega arith))

-- ---- the first piece of a text

pub trues_first : (t : Text) → are_trues (pieces t)
    ≡ ((is_word Attribute (first_piece (pieces t)) && is_true (lower (first_piece (pieces t))))
    && are_trues (rest_of (pieces t)))
trues_first t = at_pieces (λ ps. are_trues ps
    ≡ ((is_word Attribute (first_piece ps) && is_true (lower (first_piece ps))) && are_trues (rest_of ps)))
    (λ p ps. refl) t

abbrev test_of : Bool → Bool → ℕ → Bool
test_of a b n = (a && b) && nat_le n 1

small_none : (t : Text) → is_word Attribute (first_piece (pieces t)) ≡ false
    → has_small_value (pieces t) ≡ false
small_none t =
    at_pieces (λ ps. is_word Attribute (first_piece ps) ≡ false → has_small_value ps ≡ false) (grind arith) t

module _ (t : Text) (word : IsWord Attribute (first_piece (pieces t))) where
  abbrev Same : List Text → Type 0
  Same ps = (has_small_value ps ≡ has_small_value (rest_of ps))
      × (normal_values ps ≡ normal_values (rest_of ps))

  -- it is `true`
  small_true : is_true (lower (first_piece (pieces t))) ≡ true → Same (pieces t)
  small_true e = grind arith

  -- it is another, and the last one that is
  small_only : is_true (lower (first_piece (pieces t))) ≡ false → are_trues (rest_of (pieces t)) ≡ true
      → (has_small_value (pieces t) ≡ true)
      × (normal_values (pieces t) ≡ lower (first_piece (pieces t)) ∷ [])
  small_only e r = at_pieces (λ ps. IsWord Attribute (first_piece ps)
      → is_true (lower (first_piece ps)) ≡ false
      → are_trues (rest_of ps) ≡ true
      → (has_small_value ps ≡ true) × (normal_values ps ≡ lower (first_piece ps) ∷ [])) by t word e r
    where
      by : (p : Text) (ps : List Text) → IsWord Attribute p → is_true (lower p) ≡ false
          → are_trues ps ≡ true
          → (has_small_value (p ∷ ps) ≡ true) × (normal_values (p ∷ ps) ≡ lower p ∷ [])
      by p ps w x all =
          let rest = all_trues ps all in
          let values : normal_values (p ∷ ps) ≡ lower p ∷ [] =
          values_other p ps x ∙ ap (λ l. lower p ∷ l) rest.1 in
          (λ j. test_of (w j) (rest.0 j) (length (values j)), values)

  -- others follow
  small_many : is_true (lower (first_piece (pieces t))) ≡ false → are_trues (rest_of (pieces t)) ≡ false
      → has_small_value (pieces t) ≡ false
  small_many e r = grind (arith, at_pieces, values_other, one_more)

-- ---- pieces that are passed

-- what comes behind a piece
pub behind : {l m : Cursor} → IsNextPiece l m → rest_of (pieces_left l) ≡ pieces_left m
behind n = ap rest_of n.pieces

module _ (word at m : Cursor) (same : are_trues (rest_of (pieces_left word)) ≡ are_trues (rest_of
    (pieces_left at)))
    (n : IsNextPiece at m) where
  abbrev both : Bool → Bool → Bool
  both a b = (a && b) && are_trues (rest_of (pieces_left m))

  from_here : are_trues (rest_of (pieces_left word))
      ≡ both (is_word Attribute (piece_left m)) (is_true (lower (piece_left m)))
  from_here = same ∙ ap are_trues (behind n) ∙ trues_first (bytes_left m)

  -- a piece that is none of a value
  pub no_word : is_word Attribute (piece_left m) ≡ false → false ≡ are_trues (rest_of (pieces_left word))
  no_word e = sym (from_here ∙ ap (λ b. both b (is_true (lower (piece_left m)))) e)

  module _ (attribute : IsWord Attribute (piece_left m)) where
    -- a piece that is not `true`
    pub no_true : is_true (lower (piece_left m)) ≡ false → false ≡ are_trues (rest_of (pieces_left word))
    no_true e = sym (from_here ∙ (λ j. both (attribute j) (e j)))

    -- `true`
    pub goes_on : is_true (lower (piece_left m)) ≡ true
        → are_trues (rest_of (pieces_left word)) ≡ are_trues (rest_of (pieces_left m))
    goes_on e = from_here ∙ (λ j. both (attribute j) (e j))

-- from the key on only `true` was passed
pub record Reaches (key at : Cursor) : Type 0 where
  pub short : IsShortPiece (piece_left at)
  pub window : at.window.now ≡ key.window.now
  pub end : at.at + at.remaining ≡ key.at + key.remaining
  pub from : key.at + length (piece_left key) ≤ at.at + length (piece_left at)
  pub small : has_small_value (rest_of (pieces_left key)) ≡ has_small_value (rest_of (pieces_left at))
  pub values : normal_values (rest_of (pieces_left key)) ≡ normal_values (rest_of (pieces_left at))

pub reaches_key : (key : Cursor) → IsShortPiece (piece_left key) → Reaches key key
reaches_key key short = grind arith

module _ (key at : Cursor) (h : Reaches key at) where
  -- nothing follows
  pub only_trues : pieces_left at ≡ piece_left at ∷ []
      → (has_small_value (rest_of (pieces_left key)) ≡ true)
      × (normal_values (rest_of (pieces_left key)) ≡ [])
  only_trues e = search

  module _ (m : Cursor) (n : IsNextPiece at m) where
    small_behind : has_small_value (rest_of (pieces_left key)) ≡ has_small_value (pieces_left m)
    small_behind = h.small ∙ ap has_small_value (behind n)

    values_behind : normal_values (rest_of (pieces_left key)) ≡ normal_values (pieces_left m)
    values_behind = h.values ∙ ap normal_values (behind n)

    -- a piece that is none of a value
    pub misfit : is_word Attribute (piece_left m) ≡ false
        → has_small_value (rest_of (pieces_left key)) ≡ false
    misfit e = small_behind ∙ small_none (bytes_left m) e

    module _ (word : IsWord Attribute (piece_left m)) where
      -- `true`
      pub reaches_more : is_true (lower (piece_left m)) ≡ true → Reaches key m
      reaches_more e = grind (arith, small_true, next_at, short_attribute, small_behind, values_behind)

      -- another, with only `true` behind it
      pub only_one : is_true (lower (piece_left m)) ≡ false → are_trues (rest_of (pieces_left m)) ≡ true
          → IsOnly key m
      only_one e r = grind (arith, small_only, next_at, behind, small_behind, values_behind)

      -- another, with others behind it
      pub not_only : is_true (lower (piece_left m)) ≡ false → are_trues (rest_of (pieces_left m)) ≡ false
          → has_small_value (rest_of (pieces_left key)) ≡ false
      not_only e r = small_behind ∙ small_many (bytes_left m) word e r
