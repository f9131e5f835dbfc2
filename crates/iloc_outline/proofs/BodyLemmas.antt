-- What follows a singleton: the pieces up to the next block, and the parts that are put for them.
use Rattle.std.proofs.Common.{◌≡◌, ◌≢◌, ℕ, ◌<◌, Bool, true, false, List, [], ◌∷◌, ◌++◌, length, map, refl, sym, ap, ◌∙◌, arith, append-nil, length-append, true≢false}
use Rattle.std.specs.List.{AllByRecursion}
use Rattle.std.specs.Char.{to_ascii_lowercase}
use Rattle.std.proofs.lemmas.Bool.{cond_both}
use Rattle.std.proofs.lemmas.Grind.{flat_map-append}
use Rattle.std.proofs.lemmas.List.{map-append}
use Rattle.iloc_spec_grammar.specs.Syntax.{Text, front, first_piece, is_one_byte, is_other_singleton, lower}
use Rattle.iloc_spec_grammar.specs.Reading.{starts_block}
use Rattle.iloc_spec_grammar.proofs.PiecesLaws.{at_pieces}
use Rattle.iloc_spec_grammar.proofs.Readings.{IsLong}
use Rattle.iloc_outline.specs.Parts.{Part, printed_part, rank, singleton_part}
use Rattle.iloc_pieces.specs.Cursor.{IsSpanned, piece_left, pieces_left, bytes_left}
use Rattle.iloc_outline.specs.Spans.{AreShort, IsSpan}
use Rattle.iloc_spans.specs.Spans.{held_spans}
use Rattle.iloc_outline.specs.Reading.{Puts, block_span}
use Rattle.iloc_pieces.specs.declared.place.Cursor.{Cursor}
use Rattle.iloc_spans.specs.declared.span.Span.{Span}
use Rattle.iloc_spans.specs.declared.spans.Spans.{Spans}
use Rattle.iloc_outline.proofs.SpansLemmas.{adds_then, not_edited, spell_put}

-- the body goes on over longer pieces
pub front_past : (ps rest : List Text) → AllByRecursion IsLong ps → front (ps ++ rest) ≡ ps ++ front rest
front_past [] rest h = refl
front_past (p ∷ ps) rest h = rw h.0 (ap (λ l. p ∷ l) (front_past ps rest h.1))

-- ... and ends where a block begins
pub front_none : (rest : List Text) → starts_block rest ≡ true → front rest ≡ []
front_none [] h = refl
front_none (p ∷ rest) h = rw h

pub front_all : (ps rest : List Text) → AllByRecursion IsLong ps → starts_block rest ≡ true
    → front (ps ++ rest) ≡ ps
front_all ps rest h s = simp (front_past, front_none, append-nil)

pub front_whole : (ps : List Text) → AllByRecursion IsLong ps → front ps ≡ ps
front_whole ps h = ap front (sym (append-nil ps)) ∙ front_all ps [] h refl

-- a longer piece belongs to it
pub front_first : (p : Text) (rest : List Text) → IsLong p → front (p ∷ rest) ≡ p ∷ front rest
front_first p rest h = rw h

-- what holds of each piece holds of those of the body
pub front_each : (P : Text → Type 0) (ps : List Text) → AllByRecursion P ps → AllByRecursion P (front ps)
front_each P [] h = tt
front_each P (p ∷ ps) h = grind (arith, cond_both, front_each P ps h.1)

-- ---- parts

-- no parts
pub puts_none : (t : Text) (spans : Spans) (o : Bool) → Puts t [] [] spans spans o o
puts_none t spans o = grind (arith, append-nil)

-- one part
pub puts_one : (t : Text) (s : Span) (p : Part) (old new : Spans) (o n : Bool) →
    held_spans new ≡ held_spans old ++ s ∷ []
    → IsSpan t s p → 0 < length p.pieces
    → (n ≡ true → (o ≡ true) × (printed_part p ≡ map lower p.pieces)) → Puts t (p ∷ []) p.pieces old new o n
puts_one t s p old new o n put span some same = grind (arith, spell_put, length-append, append-nil)

-- parts and then others
pub puts_then : (t : Text) (xs ys : List Part) (ps qs : List Text) (old mid new : Spans) (o m n : Bool)
    → Puts t xs ps old mid o m → Puts t ys qs mid new m n → Puts t (xs ++ ys) (ps ++ qs) old new o n
puts_then t xs ys ps qs old mid new o m n a b = record {
  adds = adds_then t xs ys old mid new a.adds b.adds;
  few = omega (arith, a.few, b.few, length-append ps qs);
  order = grind (arith, flat_map-append, map-append);
}

-- ---- the singleton

-- what is behind it stands as it is printed, but behind that of another extension
pub printed_known : (c : ℕ) (ps : List Text) → is_other_singleton (to_ascii_lowercase c) ≡ false
    → printed_part (singleton_part c ps) ≡ map lower ((c ∷ []) ∷ ps)
printed_known c ps known = grind arith

-- its span is its part
pub singleton_span : (t : Text) (c start end : ℕ) (ps : List Text) (edited : Bool)
    → IsSpanned t start end ((c ∷ []) ∷ ps)
    → (edited ≡ false → printed_part (singleton_part c ps) ≡ map lower ((c ∷ []) ∷ ps))
    → (edited ≡ true → AreShort ((c ∷ []) ∷ ps))
    → IsSpan t (block_span (rank (to_ascii_lowercase c)) start end edited) (singleton_part c ps)
singleton_span t c start end ps edited h same short = grind arith

-- it is put, and stands as it is printed
pub puts_singleton : (t : Text) (c start end : ℕ) (ps : List Text) (old new : Spans) (o : Bool)
    → IsSpanned t start end ((c ∷ []) ∷ ps)
    → is_other_singleton (to_ascii_lowercase c) ≡ false
    → held_spans new ≡ held_spans old ++ block_span (rank (to_ascii_lowercase c)) start end false ∷ []
    → Puts t (singleton_part c ps ∷ []) ((c ∷ []) ∷ ps) old new o o
puts_singleton t c start end ps old new o h known put =
    let same = printed_known c ps known in
    puts_one t _ (singleton_part c ps) old new o o put
    (singleton_span t c start end ps false h (λ e. same) not_edited) (omega arith) (λ e. (e, same))

-- where a body begins with a singleton, it is empty
pub front_single : (ps : List Text) → is_one_byte (first_piece ps) ≡ true → front ps ≡ []
front_single [] h = refl
front_single (p ∷ ps) h = rw h

-- where a block begins, the body ends
pub front_ends : (l k : Cursor) (qs : List Text) → pieces_left l ≡ qs ++ pieces_left k →
    AllByRecursion IsLong qs
    → is_one_byte (piece_left k) ≡ true → front (pieces_left l) ≡ qs
front_ends l k qs cut h one = grind (arith, front_past, front_single, append-nil)

-- ... and a longer piece goes on
pub front_goes_on : (l k : Cursor) (qs : List Text) → pieces_left l ≡ qs ++ pieces_left k →
    AllByRecursion IsLong qs
    → is_one_byte (piece_left k) ≡ false
    → (more : List Text) × (front (pieces_left l) ≡ qs ++ (piece_left k ∷ more))
front_goes_on l k qs cut h longer = (
  front others.0,
  grind (arith, front_past, front_first),
)
  where
    others : (more : List Text) × (pieces_left k ≡ piece_left k ∷ more)
    others = at_pieces (λ ps. (more : List Text) × (ps ≡ first_piece ps ∷ more)) (λ p ps. (ps, refl))
        (bytes_left k)

-- no piece is passed where the next one is of another length
pub some_passed : (l k : Cursor) (qs : List Text) → pieces_left l ≡ qs ++ pieces_left k
    → is_one_byte (piece_left l) ≡ false → is_one_byte (piece_left k) ≡ true → qs ≢ []
some_passed l k qs cut longer one e = grind (arith, true≢false)
