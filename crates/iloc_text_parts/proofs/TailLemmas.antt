-- Tails of texts, and the pieces that are taken from them.
use Rattle.std.proofs.Common.{◌≡◌, ◌≢◌, ℕ, ◌-◌, ◌≤◌, Bool, List, [], ◌∷◌, ◌++◌, length, take, drop, refl, sym, ap, ◌∙◌, arith, unwrap_or, Option}
use Rattle.std.specs.List.{AllByRecursion}
use Rattle.std.proofs.lemmas.List.{length-append}
use Rattle.std.proofs.Math.Seq.{take-append_seam}
use Rattle.iloc_spec_grammar.specs.Syntax.{Text, pieces, dashes, first_piece, join, IsHyphenFree}
use Rattle.iloc_spec_grammar.specs.Reading.{first_item, passing, past, rest_of}
use Rattle.iloc_spec_grammar.proofs.PiecesLaws.{join-pieces, pieces-join, pieces_hyphen_free, pieces_nonempty}
use Rattle.iloc_spec_grammar.proofs.PartTexts.{join-dashes, dashes-append}
use Rattle.iloc_spec_grammar.proofs.ReadingLaws.{all_while}
use Rattle.iloc_text_parts.specs.Tails.{IsTail, is_longer, tail_pieces}

-- the pieces of a tail that is made of them
pub tail_pieces-dashes : (ps : List Text) → AllByRecursion IsHyphenFree ps → tail_pieces (dashes ps) ≡ ps
tail_pieces-dashes [] h = refl
tail_pieces-dashes (p ∷ ps) h = ap pieces (sym (join-dashes p ps)) ∙ pieces-join p ps h

-- the pieces of a text, of which the first is told apart
module _ (t : Text) where
  whole : (ps : List Text) → pieces t ≡ ps → join ps ≡ t → t ≡ first_piece ps ++ dashes (rest_of ps)
  whole [] e j = absurd (pieces_nonempty t e)
  whole (p ∷ ps) e j = sym j ∙ join-dashes p ps

  free : (ps : List Text) → AllByRecursion IsHyphenFree ps → AllByRecursion IsHyphenFree (rest_of ps)
  free [] h = tt
  free (p ∷ ps) h = h.1

  pub first_and_rest : t ≡ first_piece (pieces t) ++ dashes (rest_of (pieces t))
  first_and_rest = whole (pieces t) refl (join-pieces t)

  rest_free : AllByRecursion IsHyphenFree (rest_of (pieces t))
  rest_free = free (pieces t) (pieces_hyphen_free t)

  left_is : (n : ℕ) → n ≡ length (first_piece (pieces t)) → drop n t ≡ dashes (rest_of (pieces t))
  left_is n e = ap (λ k. drop k t) e ∙ ap (drop (length (first_piece (pieces t)))) first_and_rest
      ∙ drop-seam (first_piece (pieces t)) (dashes (rest_of (pieces t)))
    where
      drop-seam : (a b : Text) → drop (length a) (a ++ b) ≡ b
      drop-seam [] b = refl
      drop-seam (x ∷ a) b = drop-seam a b

  pub first_taken : (n : ℕ) → n ≡ length (first_piece (pieces t)) → take n t ≡ first_piece (pieces t)
  first_taken n e = ap (λ k. take k t) e ∙ ap (take (length (first_piece (pieces t)))) first_and_rest
      ∙ take-append_seam (first_piece (pieces t)) (dashes (rest_of (pieces t)))

  pub rest_left : (n : ℕ) → n ≡ length (first_piece (pieces t))
      → tail_pieces (drop n t) ≡ rest_of (pieces t)
  rest_left n e = ap tail_pieces (left_is n e) ∙ tail_pieces-dashes (rest_of (pieces t)) rest_free

  pub tail_left : (n : ℕ) → n ≡ length (first_piece (pieces t)) → IsTail (drop n t)
  tail_left n e = left_is n e ∙ sym (ap dashes (rest_left n e))

  pub first_within : length (first_piece (pieces t)) ≤ length t
  first_within = omega (
    arith,
    ap length first_and_rest
        ∙ length-append (first_piece (pieces t)) (dashes (rest_of (pieces t))),
  )

  -- the first piece, as it is looked up
  pub first_found : (n : ℕ) (o : Option Text) → o ≡ first_item (pieces t) → n ≡ length (unwrap_or o [])
      → n ≡ length (first_piece (pieces t))
  first_found n o e m = m ∙ ap length (ap (λ x. unwrap_or x []) e ∙ as_item (pieces t))
    where
      as_item : (ps : List Text) → unwrap_or (first_item ps) [] ≡ first_piece ps
      as_item [] = refl
      as_item (p ∷ ps) = refl

-- what stands before a tail
pub before_tail : (t a b : Text) → t ≡ a ++ b → take (length t - length b) t ≡ a
before_tail t a b e =
    let n : length t - length b ≡ length a = omega (arith, ap length e ∙ length-append a b) in
    ap (λ k. take k t) n ∙ ap (take (length a)) e ∙ take-append_seam a b

-- the pieces that pass, and the others
pub taken_apart : (test : Text → Bool) (t rest : Text) → IsTail t → rest ≡ dashes (past test (tail_pieces t))
    → t ≡ dashes (passing test (tail_pieces t)) ++ rest
taken_apart test t rest h e =
    h ∙ ap dashes (sym (all_while test (tail_pieces t)))
    ∙ dashes-append (passing test (tail_pieces t)) (past test (tail_pieces t))
    ∙ ap (λ l. dashes (passing test (tail_pieces t)) ++ l) (sym e)

-- the front of a tail, whose pieces are longer
pub longer_taken : (n : ℕ) (t rest : Text) → IsTail t → rest ≡ dashes (past (is_longer n) (tail_pieces t))
    → take (length t - length rest) t ≡ dashes (passing (is_longer n) (tail_pieces t))
longer_taken n t rest h e = before_tail t _ rest (taken_apart (is_longer n) t rest h e)

-- the first piece, and the others
pub first_before_rest : (t : Text) → pieces t ≡ first_piece (pieces t) ∷ rest_of (pieces t)
first_before_rest t = by (pieces t) refl
  where
    by : (ps : List Text) → pieces t ≡ ps → ps ≡ first_piece ps ∷ rest_of ps
    by [] e = absurd (pieces_nonempty t e)
    by (p ∷ ps) e = refl

pub tail_pieces-behind : (t : Text) → t ≢ [] → tail_pieces t ≡ pieces (drop 1 t)
tail_pieces-behind [] n = absurd (n refl)
tail_pieces-behind (c ∷ t) n = refl
