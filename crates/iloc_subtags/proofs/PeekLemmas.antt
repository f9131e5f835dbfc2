-- The next piece, by its length.
use Rattle.std.proofs.Common.{◌≡◌, ℕ, ◌≤◌, Bool, true, false, cond, List, [], ◌∷◌, length, take, refl, sym, ap, ◌∙◌, arith, Some, None, true≢false, nat_le}
use Rattle.std.proofs.lemmas.Bool.Decides.{nat_tests}
use Rattle.std.proofs.lemmas.Bool.{false_from_ne_true}
use Rattle.std.proofs.lemmas.List.{length-take-le}
use Rattle.iloc_spec_grammar.specs.Syntax.{Text, pieces, Kind, is_word}
use Rattle.iloc_spec_grammar.specs.Reading.{EndsBefore, first_item, take_first}
use Rattle.iloc_subtags.specs.Lengths.{has_length}
use Rattle.iloc_subtags.specs.NextPiece.{next_has_length}
use Rattle.iloc_subtags.proofs.LengthLaws.{word_has_length}
use Rattle.iloc_subtags.specs.declared.subtag_iterator.SubtagIterator.{SubtagIterator}
use Rattle.iloc_subtags.specs.Left.{left}

is_le : (m n : ℕ) → m ≤ n → nat_le m n ≡ true
is_le m n h = grind (arith, nat_tests)

from_le : (m n : ℕ) → nat_le m n ≡ true → m ≤ n
from_le m n h = grind (arith, nat_tests)

pub first_left : (it : SubtagIterator) → it.len ≤ length it.text.now →
    first_item (left it) ≡ Some (take it.len it.text.now)
unfolding left
first_left it h = ap (λ b. first_item (cond b (pieces it.text.now) [])) (is_le it.len (length it.text.now) h)
    ∙ ap first_item (it.first h)

-- a piece of another length is no word of the kind
pub other_length : (k : Kind) (p : Text) (n : ℕ) → length p ≡ n → has_length k n ≡ false
    → is_word k p ≡ false
other_length k p n e other = by (is_word k p) refl
  where
    by : (b : Bool) → is_word k p ≡ b → is_word k p ≡ false
    by true h = absurd (true≢false (sym (word_has_length k p h) ∙ ap (has_length k) e ∙ other))
    by false h = h

pub none_left : (k : Kind) (it : SubtagIterator) → has_length k it.len ≡ false →
    take_first (is_word k) (left it) ≡ None
unfolding left
none_left k it other = by (nat_le it.len (length it.text.now)) refl
  where
    by : (b : Bool) → nat_le it.len (length it.text.now) ≡ b →
        take_first (is_word k) (cond b (pieces it.text.now) []) ≡ None
    by false e = refl
    by true e =
        let h = from_le it.len (length it.text.now) e in
        ap (take_first (is_word k)) (it.first h)
        ∙ ap (λ b. cond b (Some (take it.len it.text.now)) None)
        (other_length k (take it.len it.text.now) it.len (length-take-le it.len it.text.now h) other)

-- the length that is kept tells that of the next piece; one beyond the text is more than a kind has
pub next_length : (k : Kind) (it : SubtagIterator) → (has_length k it.len ≡ true → it.len ≤ 8) →
    has_length k it.len ≡ next_has_length k (left it)
unfolding left
next_length k it few = by (nat_le it.len (length it.text.now)) refl
  where
    by : (b : Bool) → nat_le it.len (length it.text.now) ≡ b →
        has_length k it.len ≡ next_has_length k (cond b (pieces it.text.now) [])
    by true e =
        let h = from_le it.len (length it.text.now) e in
        sym (ap (next_has_length k) (it.first h) ∙ ap (has_length k) (length-take-le it.len it.text.now h))
    by false e = false_from_ne_true _
        (λ t. true≢false (sym (is_le it.len (length it.text.now) (it.within (few t))) ∙ e))

-- a next piece of another length is no word of the kind
pub ends_before : (k : Kind) (ps : List Text) → next_has_length k ps ≡ false → EndsBefore (is_word k) ps
ends_before k [] other = tt
ends_before k (p ∷ ps) other = other_length k p (length p) refl other
