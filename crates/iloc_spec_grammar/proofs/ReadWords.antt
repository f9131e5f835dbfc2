-- Reading a word.
use Rattle.std.proofs.Common.{arith, ◌≡◌, ◌↔◌, false, length, refl, ap, ◌∙◌, Some, Ok, Err}
use Rattle.iloc_spec_grammar.specs.Syntax.{Text, Kind, is_word, IsWord, normal, lower, word, read}
use Rattle.iloc_spec_grammar.specs.Values.{IsNormal}
use Rattle.iloc_spec_grammar.proofs.WordsLaws.{normal-normal, is_word-normal, is_word-same, length-normal, normal-lower, same_normal}
use Rattle.std.proofs.lemmas.Option.{cond_some}

pub accepted_from_word : (k : Kind) (p w : Text) → word k p ≡ Some w → IsWord k p × (normal k p ≡ w)
accepted_from_word k p w e = cond_some (is_word k p) (normal k p) w e

pub word_of_word : (k : Kind) (p : Text) → IsWord k p → word k p ≡ Some (normal k p)
word_of_word k p h = rw h refl

-- a normal form is normal
pub IsNormal-normal : (k : Kind) (p : Text) → IsWord k p → IsNormal k (normal k p)
IsNormal-normal k p h = (is_word-normal k p ∙ h, normal-normal k p)

pub word-normal : (k : Kind) (w : Text) → IsNormal k w → word k w ≡ Some w
word-normal k w h = word_of_word k w h.0 ∙ ap Some h.1

pub normal_again : (k : Kind) (p w : Text) → word k p ≡ Some w → word k w ≡ Some w
normal_again k p w e = grind (arith, accepted_from_word, word-normal, IsNormal-normal)

pub length_kept : (k : Kind) (p w : Text) → word k p ≡ Some w → length w ≡ length p
length_kept k p w e = grind (arith, accepted_from_word, length-normal)

-- two texts have one normal form exactly where they are equal without case
pub one_normal : (k : Kind) (a b v w : Text) → word k a ≡ Some v → word k b ≡ Some w →
    (v ≡ w) ↔ (lower a ≡ lower b)
one_normal k a b v w ea eb = grind (arith, accepted_from_word, same_normal)

-- a normal word is the normal text of exactly the texts that equal it without case
pub normal_of_same : (k : Kind) (w p : Text) → IsNormal k w → (lower w ≡ lower p) ↔ (word k p ≡ Some w)
normal_of_same k w p h = grind (arith, word_of_word, is_word-same, normal-lower, one_normal, word-normal)

-- what reading a word tells
pub accepted_from_read : {E : Type 0} (k : Kind) (e : E) (p w : Text) → Ok w ≡ read k e p →
    IsWord k p × (w ≡ normal k p)
accepted_from_read {E = E} k e p w h = grind arith

pub refused_from_read : {E : Type 0} (k : Kind) (e f : E) (p : Text) → Err f ≡ read k e p →
    (is_word k p ≡ false) × (f ≡ e)
refused_from_read {E = E} k e f p h = grind arith
