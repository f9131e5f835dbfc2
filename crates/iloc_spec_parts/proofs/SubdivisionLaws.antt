-- A subdivision's text is read as it, and what is read has the text in lower case.
use Rattle.std.proofs.Common.{◌≡◌, ◌≤◌, true, ◌&&◌, ◌==◌, [], ◌∷◌, ◌++◌, length, take-append-drop, length-append, sym, ◌∙◌, arith, Some, Ok, ok_or, inl, inr, true≢false, MatchResult}
use Rattle.std.specs.List.{list_all}
use Rattle.std.specs.Char.{is_ascii_alphanumeric}
use Rattle.std.proofs.lemmas.Bool.{and_parts, and_from, or_cases, eqb-true, cond_both}
use Rattle.std.proofs.lemmas.List.Folds.{list_all-append}
use Rattle.std.proofs.Math.Seq.{take-append_seam, drop-append_seam}
use Rattle.std.proofs.lemmas.Bool.Decides.{nat_tests}
use Rattle.std.proofs.lemmas.List.{map-append}
use Rattle.iloc_spec_grammar.specs.Syntax.{Text, Region, Subtag, SubdivisionSuffix, is_word, IsWord, word, lower, upper, letters, digits}
use Rattle.iloc_spec_grammar.specs.Meaning.{InvalidExtension}
use Rattle.iloc_spec_grammar.proofs.WordsLaws.{is_word-lower, is_word-normal, normal-normal, lower-lower, lower-upper, upper-lower, length-region, every, letter_is, digit_is, digit_no_letter}
use Rattle.iloc_spec_parts.specs.Subdivisions.{Subdivision, IsSubdivision, region_length, both_words, subdivision, subdivision_text}

-- regions

region_both : (r : Text) → IsWord Region r → list_all is_ascii_alphanumeric r ≡ true
unfolding is_word
region_both r h = elim (or_cases ((length r == 2) && letters r) ((length r == 3) && digits r) h) [
  | inl a ↦ every _ _ letter_is r (and_parts _ _ a).1
  | inr a ↦ every _ _ digit_is r (and_parts _ _ a).1
]

region_first : (r x : Text) → IsWord Region r → region_length (r ++ x) ≡ length r
unfolding is_word
region_first [] x h = absurd (true≢false (sym h))
region_first (c ∷ r) x h = grind (arith, or_cases, and_parts, eqb-true, digit_no_letter)

suffix_parts : (x : Text) → IsWord SubdivisionSuffix x →
    ((1 ≤ length x) × (length x ≤ 4)) × (list_all is_ascii_alphanumeric x ≡ true)
unfolding is_word
suffix_parts x h = grind (arith, and_parts, nat_tests)

-- a region and a suffix are a subtag
joined_subtag : (r x : Text) → IsWord Region r → IsWord SubdivisionSuffix x → IsWord Subtag (r ++ x)
unfolding is_word
joined_subtag r x h k =
    grind (
      arith,
      length-region,
      suffix_parts,
      length-append,
      and_from,
      nat_tests,
      list_all-append,
      region_both,
    )

read_joined : (r x : Text) → IsWord Region r → IsWord SubdivisionSuffix x →
    subdivision (r ++ x) ≡ Ok (record { region = upper r; suffix = lower x })
read_joined r x h k = grind (arith, joined_subtag, region_first, take-append_seam, drop-append_seam)

pub subdivision_back : (s : Subdivision) → IsSubdivision s → subdivision (subdivision_text s) ≡ Ok s
subdivision_back s h = grind (arith, read_joined, is_word-lower, upper-lower, lower-lower)

pub subdivision_is_subtag : (s : Subdivision) → IsSubdivision s → IsWord Subtag (subdivision_text s)
subdivision_is_subtag s h = search (joined_subtag, is_word-lower)

-- what is read

record Read (w : Text) (s : Subdivision) : Type 0 where
  valid : IsSubdivision s
  same_text : subdivision_text s ≡ lower w
  long : 3 ≤ length w

lower_joined : (a b : Text) → lower a ++ lower b ≡ lower (a ++ b)
unfolding lower
lower_joined a b = sym (map-append _ a b)

read_parts : (w a b : Text) → a ++ b ≡ w →
    MatchResult (ok_or (both_words (word Region a) (word SubdivisionSuffix b)) InvalidExtension) (Read w)
    (λ f. Unit {0})
read_parts w a b e = cond_both (is_word Region a) _ _ (λ o.
    MatchResult (ok_or (both_words o (word SubdivisionSuffix b)) InvalidExtension) (Read w) (λ f. Unit {0}))
    (λ r. cond_both (is_word SubdivisionSuffix b) _ _
    (λ o. MatchResult (ok_or (both_words (Some (upper a)) o) InvalidExtension) (Read w) (λ f. Unit {0}))
    (λ x. record {
      valid = record {
        region = (is_word-normal Region a ∙ r, normal-normal Region a);
        suffix = search (is_word-normal, normal-normal);
      };
      same_text = grind (arith, lower-upper, lower-lower, lower_joined);
      long = grind (arith, length-region, suffix_parts, length-append);
    })
    (λ x. tt))
    (λ r. tt)

read_of : (w : Text) → MatchResult (subdivision w) (Read w) (λ f. Unit {0})
read_of w = grind (arith, cond_both, read_parts, take-append-drop)

read_ok : (w : Text) (s : Subdivision) → subdivision w ≡ Ok s → Read w s
read_ok w s e = rw e at (read_of w)

pub read_is_subdivision : (w : Text) (s : Subdivision) → subdivision w ≡ Ok s → IsSubdivision s
read_is_subdivision w s e = (read_ok w s e).valid

pub text_of_read : (w : Text) (s : Subdivision) → subdivision w ≡ Ok s → subdivision_text s ≡ lower w
text_of_read w s e = (read_ok w s e).same_text

pub read_is_long : (w : Text) (s : Subdivision) → subdivision w ≡ Ok s → 3 ≤ length w
read_is_long w s e = (read_ok w s e).long
