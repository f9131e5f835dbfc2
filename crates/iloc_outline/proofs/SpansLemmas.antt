-- Spans and the parts that they spell.
use Rattle.std.proofs.Common.{◌≡◌, ℕ, ◌==◌, ◌||◌, true, false, true≢false, List, [], ◌∷◌, ◌++◌, length, map, take, drop, refl, sym, append_assoc, arith}
use Rattle.std.specs.Char.{is_ascii_alphanumeric, to_ascii_lowercase}
use Rattle.std.specs.Int.{is_in_range}
use Rattle.std.specs.List.{AllByRecursion, AllZip}
use Rattle.std.specs.Ordering.{nat_cmp}
use Rattle.std.specs.FinMap.{put}
use Rattle.std.proofs.lemmas.Slice.Zip.{AllZip-long}
use Rattle.iloc_spec_grammar.specs.Syntax.{Text, Field, Kind, IsWord, Bounds, IsHyphenFree}
use Rattle.iloc_spec_grammar.specs.Meaning.{map_of}
use Rattle.iloc_spec_grammar.proofs.ReadBack.{word_hyphen_free}
use Rattle.std.proofs.lemmas.Bool.Decides.{nat_tests}
use Rattle.iloc_pieces.specs.Cursor.{IsShortPiece}
use Rattle.iloc_outline.specs.Reading.{IsFieldOfRole}
use Rattle.iloc_spans.specs.declared.span.Role.{Role}
use Rattle.iloc_pieces.proofs.CursorLemmas.{between_short, short_word}
use Rattle.iloc_outline.specs.Parts.{Part}
use Rattle.iloc_outline.specs.Spans.{AddsParts, AreShort, IsSpan, Spell}
use Rattle.iloc_spans.specs.Spans.{held_spans}
use Rattle.iloc_spans.proofs.Arranging.{arranged, numbered}
use Rattle.iloc_spans.specs.declared.span.Span.{Span}
use Rattle.iloc_spans.specs.declared.spans.Spans.{Spans}

-- ---- the pieces of a span

-- a span that is not edited is printed as it stands
pub not_edited : {ps : List Text} → false ≡ true → AreShort ps
not_edited e = absurd (true≢false (sym e))

-- words of a kind, each of at most eight bytes
pub words_short : (k : Kind) → Bounds 8 k → (ws : List Text) → AllByRecursion (IsWord k) ws →
    AllByRecursion IsHyphenFree ws × AllByRecursion IsShortPiece ws
words_short k ends [] h = (tt, tt)
words_short k ends (w ∷ ws) h = search (word_hyphen_free, short_word, words_short k ends ws h.1)

-- a key and its values
pub field_short : (r : Role) (f : Field) → IsFieldOfRole r f → AreShort (f.0 ∷ f.1)
field_short r f h = grind (arith, word_hyphen_free, words_short, short_word)

-- a singleton and pieces of two to eight bytes
pub other_short : (c : ℕ) (ps : List Text) → is_ascii_alphanumeric (to_ascii_lowercase c) ≡ true →
    AllByRecursion IsHyphenFree ps
    → AllByRecursion (λ p. is_in_range 2 8 (length p) ≡ true) ps → AreShort ((c ∷ []) ∷ ps)
other_short c ps letter free h = record {
  some = λ e. absurd (cc);
  hyphen_free = (no_hyphen c letter, free);
  short = (omega arith, each ps h);
}
  where
    each : (ps : List Text) → AllByRecursion (λ p. is_in_range 2 8 (length p) ≡ true) ps →
        AllByRecursion IsShortPiece ps
    each [] h = tt
    each (p ∷ ps) h = (between_short p h.0, each ps h.1)

    no_hyphen : (c : ℕ) → is_ascii_alphanumeric (to_ascii_lowercase c) ≡ true → ((c == 45) || false) ≡ false
    no_hyphen c h = grind (arith, nat_tests)

-- ---- partners

-- two lists of partners, one behind the other
pub zip_append : {A B : Type 0} (R : A → B → Type 0) (xs xs' : List A) (ys ys' : List B) → AllZip R xs ys →
    AllZip R xs' ys'
    → AllZip R (xs ++ xs') (ys ++ ys')
zip_append R [] xs' [] ys' h k = k
zip_append R [] xs' (y ∷ ys) ys' h k = absurd h
zip_append R (x ∷ xs) xs' [] ys' h k = absurd h
zip_append R (x ∷ xs) xs' (y ∷ ys) ys' h k = (h.0, zip_append R xs xs' ys ys' h.1 k)

-- as many parts as spans
pub spell_length : (t : Text) (spans : Spans) (ps : List Part) → Spell t spans ps →
    length ps ≡ length (held_spans spans)
spell_length t spans ps h = AllZip-long (IsSpan t) (held_spans spans) ps h

-- what is added twice is added behind one another
pub adds_then : (t : Text) (a b : List Part) (x y z : Spans) → AddsParts t a x y → AddsParts t b y z →
    AddsParts t (a ++ b) x z
adds_then t a b x y z f g ps h = grind (arith, append_assoc)

-- a span was put behind the others
pub spell_put : (t : Text) (old new : Spans) (ps : List Part) (s : Span) (p : Part) → Spell t old ps →
    IsSpan t s p
    → held_spans new ≡ held_spans old ++ s ∷ [] → Spell t new (ps ++ (p ∷ []))
spell_put t old new ps s p h is e = grind (arith, zip_append)

-- the first partners of a list whose front is known, and the others
pub zip_take : {A B : Type 0} (R : A → B → Type 0) (xs : List A) (ys zs : List B) → AllZip R xs (ys ++ zs) →
    AllZip R (take (length ys) xs) ys
zip_take R xs [] zs h = tt
zip_take R [] (y ∷ ys) zs h = absurd h
zip_take R (x ∷ xs) (y ∷ ys) zs h = (h.0, zip_take R xs ys zs h.1)

pub zip_drop : {A B : Type 0} (R : A → B → Type 0) (xs : List A) (ys zs : List B) → AllZip R xs (ys ++ zs) →
    AllZip R (drop (length ys) xs) zs
zip_drop R xs [] zs h = h
zip_drop R [] (y ∷ ys) zs h = absurd h
zip_drop R (x ∷ xs) (y ∷ ys) zs h = zip_drop R xs ys zs h.1

-- partners that have the same number are partners in order
module _ {A B : Type 0} (R : A → B → Type 0) (number : A → ℕ) (word : B → ℕ)
    (same : (x : A) (y : B) → R x y → number x ≡ word y) where
  zip_put : (k : ℕ) (x : A) (y : B) → R x y → (es : List (ℕ × A)) (fs : List (ℕ × B)) →
      AllZip (λ e f. (e.0 ≡ f.0) × R e.1 f.1) es fs
      → AllZip (λ e f. (e.0 ≡ f.0) × R e.1 f.1) (put nat_cmp k x es) (put nat_cmp k y fs)
  zip_put k x y r [] [] h = ((refl, r), tt)
  zip_put k x y r [] (f ∷ fs) h = absurd h
  zip_put k x y r (e ∷ es) [] h = absurd h
  zip_put k x y r (e ∷ es) (f ∷ fs) h = grind (arith, zip_put k x y r es fs h.1)

  zip_map_of : (xs : List A) (ys : List B) → AllZip R xs ys
      → AllZip (λ e f. (e.0 ≡ f.0) × R e.1 f.1) (map_of nat_cmp (numbered number xs))
      (map_of nat_cmp (numbered word ys))
  zip_map_of [] [] h = tt
  zip_map_of [] (y ∷ ys) h = absurd h
  zip_map_of (x ∷ xs) [] h = absurd h
  zip_map_of (x ∷ xs) (y ∷ ys) h = grind (arith, numbered, zip_put, zip_map_of xs ys h.1)

  zip_values : (es : List (ℕ × A)) (fs : List (ℕ × B)) → AllZip (λ e f. (e.0 ≡ f.0) × R e.1 f.1) es fs →
      AllZip R (map (λ (_, x). x) es) (map (λ (_, y). y) fs)
  zip_values [] [] h = tt
  zip_values [] (f ∷ fs) h = absurd h
  zip_values (e ∷ es) [] h = absurd h
  zip_values (e ∷ es) (f ∷ fs) h = (h.0.1, zip_values es fs h.1)

  pub zip_arranged : (xs : List A) (ys : List B) → AllZip R xs ys →
      AllZip R (arranged number xs) (arranged word ys)
  zip_arranged xs ys h = zip_values _ _ (zip_map_of xs ys h)
