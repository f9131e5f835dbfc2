-- The reading from the left takes what is spelled, and nothing else.
use Rattle.std.proofs.Common.{◌≡◌, ◌≢◌, ℕ, ◌≤◌, Bool, true, false, List, [], ◌∷◌, ◌++◌, length, map, refl, sym, ap, ◌∙◌, arith, Option, Some, None, IfSome, option_to_list, append_assoc, append-nil, length-append}
use Rattle.std.specs.List.{AllByRecursion}
use Rattle.std.proofs.lemmas.List.{append_cancel_left, append_cancel_right}
use Rattle.std.proofs.lemmas.Bool.{false_from_ne_true, cond_both}
use Rattle.std.proofs.lemmas.Bool.Decides.{nat_tests}
use Rattle.iloc_spec_grammar.specs.Syntax.{LanguageLengths, Text, Language, Script, Region, Variant, is_word, IsWord, lower, word_cmp, SpelledIdentifier, identifier_pieces, HasWords, AllDifferent, is_one_byte, front, first_piece}
use Rattle.iloc_spec_grammar.specs.Meaning.{IdentifierMeans, normal_identifier, SpellsIdentifier}
use Rattle.iloc_spec_grammar.specs.Reading.{take_first, skip_first, passing, past, front_of, after_front, from_block, starts_block, EndsBefore, IdentifierFront, identifier_of}
use Rattle.iloc_spec_grammar.proofs.IdentifierLaws.{all_pieces, identifier_of-pieces}
use Rattle.iloc_spec_grammar.proofs.WordsLaws.{region_no_script, variant_no_script, variant_no_region, length-script, length-region, length-variant}
use Rattle.iloc_spec_grammar.proofs.General.{cond-map}

abbrev Passes : (Text → Bool) → Text → Type 0
Passes test p = test p ≡ true

-- reading loses nothing

pub all_while : (test : Text → Bool) (ps : List Text) → passing test ps ++ past test ps ≡ ps
all_while test [] = refl
all_while test (p ∷ ps) = grind (arith, all_while test ps)

pub pieces-front_of : (p : Text) (ps : List Text) →
    identifier_pieces (front_of (p ∷ ps)) ++ after_front (p ∷ ps) ≡ p ∷ ps
unfolding front_of after_front
pieces-front_of p ps = simp (append_assoc, all_while, all_pieces)

-- what is taken passes

pub take_first_passes : (test : Text → Bool) (ps : List Text) →
    IfSome (take_first test ps) (Passes test)
take_first_passes test [] = tt
take_first_passes test (p ∷ ps) = grind (arith, cond_both)

pub keep_while_passes : (test : Text → Bool) (ps : List Text) →
    AllByRecursion (Passes test) (passing test ps)
keep_while_passes test [] = tt
keep_while_passes test (p ∷ ps) = grind (arith, cond_both, keep_while_passes test ps)

pub front_words : {T : ℕ → Bool} (ps : List Text) → IsWord (Language T) (first_piece ps) →
    HasWords T (front_of ps)
unfolding front_of
front_words ps h = search (take_first_passes, keep_while_passes)

-- what is spelled is read

pub keep_all : (test : Text → Bool) (ps : List Text) → AllByRecursion (Passes test) ps →
    passing test ps ≡ ps
keep_all test [] h = refl
keep_all test (p ∷ ps) h = search (keep_all test ps h.1)

pub front_of-pieces : {T : ℕ → Bool} (i : SpelledIdentifier) → HasWords T i →
    front_of (identifier_pieces i) ≡ i
unfolding front_of identifier_of
front_of-pieces i h =
    ap (λ (j : SpelledIdentifier). record j { variants = passing (is_word Variant) j.variants })
    (identifier_of-pieces i h)
    ∙ (search keep_all)

pub after_front-pieces : {T : ℕ → Bool} (i : SpelledIdentifier) → HasWords T i →
    after_front (identifier_pieces i) ≡ []
after_front-pieces i h = append_cancel_left (identifier_pieces i) _ []
    (grind (arith, front_of-pieces, pieces-front_of, append-nil))

-- what follows does not change the reading, where it begins with no such word

pub record EndsWords (rest : List Text) : Type 0 where
  pub script : EndsBefore (is_word Script) rest
  pub region : EndsBefore (is_word Region) rest
  pub variant : EndsBefore (is_word Variant) rest

take_first-append : (test : Text → Bool) (ps rest : List Text) → EndsBefore test rest →
    take_first test (ps ++ rest) ≡ take_first test ps
take_first-append test [] [] h = refl
take_first-append test [] (q ∷ rest) h = rw h
take_first-append test (p ∷ ps) rest h = refl

pub skip_first-append : (test : Text → Bool) (ps rest : List Text) → EndsBefore test rest →
    skip_first test (ps ++ rest) ≡ skip_first test ps ++ rest
skip_first-append test [] [] h = refl
skip_first-append test [] (q ∷ rest) h = rw h
skip_first-append test (p ∷ ps) rest h = cond-map (λ l. l ++ rest) _ _ refl refl refl

pub keep_while-append : (test : Text → Bool) (ps rest : List Text) → EndsBefore test rest →
    passing test (ps ++ rest) ≡ passing test ps
keep_while-append test [] [] h = refl
keep_while-append test [] (q ∷ rest) h = rw h
keep_while-append test (p ∷ ps) rest h = simp (keep_while-append test ps rest h)

pub skip_while-append : (test : Text → Bool) (ps rest : List Text) → EndsBefore test rest →
    past test (ps ++ rest) ≡ past test ps ++ rest
skip_while-append test [] [] h = refl
skip_while-append test [] (q ∷ rest) h = rw h
skip_while-append test (p ∷ ps) rest h = grind (arith, cond-map, skip_while-append test ps rest h)

pub front_of-append : (p : Text) (ps rest : List Text) → EndsWords rest →
    front_of (p ∷ (ps ++ rest)) ≡ front_of (p ∷ ps)
unfolding front_of
front_of-append p ps rest h = search (take_first-append, skip_first-append, keep_while-append)

pub after_front-append : (p : Text) (ps rest : List Text) → EndsWords rest →
    after_front (p ∷ (ps ++ rest)) ≡ after_front (p ∷ ps) ++ rest
unfolding after_front
after_front-append p ps rest h = search (skip_first-append, skip_while-append)

-- where a block begins, no word of an identifier does

one_byte : (p : Text) → is_one_byte p ≡ true → length p ≡ 1
one_byte p h = grind (arith, nat_tests)

block_no_script : (p : Text) → is_one_byte p ≡ true → is_word Script p ≡ false
block_no_script p h = grind (arith, false_from_ne_true, length-script, one_byte)

block_no_region : (p : Text) → is_one_byte p ≡ true → is_word Region p ≡ false
block_no_region p h = grind (arith, false_from_ne_true, length-region, one_byte)

pub starts_ends : (rest : List Text) → starts_block rest ≡ true → EndsWords rest
starts_ends [] h = search
starts_ends (p ∷ rest) h = grind (
  arith,
  block_no_script,
  block_no_region,
  false_from_ne_true,
  length-variant,
  one_byte,
)

pub front-from_block : (ps : List Text) → front ps ++ from_block ps ≡ ps
front-from_block [] = refl
front-from_block (p ∷ ps) = grind (arith, front-from_block ps)

pub from_block_starts : (ps : List Text) → starts_block (from_block ps) ≡ true
from_block_starts [] = refl
from_block_starts (p ∷ ps) = grind (arith, cond_both, from_block_starts ps)

abbrev IsLong : Text → Type 0
IsLong p = is_one_byte p ≡ false

pub front_long : (ps : List Text) → AllByRecursion IsLong (front ps)
front_long [] = tt
front_long (p ∷ ps) = grind (arith, cond_both, front_long ps)

skip_first_keeps : (P : Text → Type 0) (test : Text → Bool) (ps : List Text) → AllByRecursion P ps →
    AllByRecursion P (skip_first test ps)
skip_first_keeps P test [] h = tt
skip_first_keeps P test (p ∷ ps) h = grind (arith, cond_both)

skip_while_keeps : (P : Text → Type 0) (test : Text → Bool) (ps : List Text) → AllByRecursion P ps →
    AllByRecursion P (past test ps)
skip_while_keeps P test [] h = tt
skip_while_keeps P test (p ∷ ps) h = grind (arith, cond_both, skip_while_keeps P test ps h.1)

pub after_long : (p : Text) (ps : List Text) → AllByRecursion IsLong ps →
    AllByRecursion IsLong (after_front (p ∷ ps))
unfolding after_front
after_long p ps h = search (skip_while_keeps, skip_first_keeps)

pub starts_empty : (xs rest : List Text) → AllByRecursion IsLong xs → starts_block (xs ++ rest) ≡ true →
    xs ≡ []
starts_empty [] rest h s = refl
starts_empty (x ∷ xs) rest h s = cc

-- What the reading from the left says of a front, the pieces before where it should end.

module _ (T : LanguageLengths) (p : Text) (ps rest : List Text) (ends : EndsWords rest) where
  nothing_left : after_front (p ∷ (ps ++ rest)) ≡ rest → after_front (p ∷ ps) ≡ []
  nothing_left e =
      append_cancel_right (after_front (p ∷ ps)) [] rest (sym (after_front-append p ps rest ends) ∙ e)

  pub front_means : IsWord (Language T) p →
      AllDifferent word_cmp (map lower (front_of (p ∷ (ps ++ rest))).variants) →
      after_front (p ∷ (ps ++ rest)) ≡ rest →
      IdentifierMeans T (p ∷ ps) (normal_identifier (front_of (p ∷ (ps ++ rest))))
  front_means w d e = grind (arith, front_of-append, front_words, nothing_left, append-nil, pieces-front_of)

  spelled_front : (s : SpellsIdentifier T (p ∷ ps)) → front_of (p ∷ ps) ≡ s.0
  spelled_front s = grind (arith, front_of-pieces)

  pub refuses_more : after_front (p ∷ (ps ++ rest)) ≢ rest → ¬ (SpellsIdentifier T (p ∷ ps))
  refuses_more n s = grind (arith, after_front-append, after_front-pieces)

  pub refuses_repeat : ¬ (AllDifferent word_cmp (map lower (front_of (p ∷ (ps ++ rest))).variants)) →
      ¬ (SpellsIdentifier T (p ∷ ps))
  refuses_repeat n s = n (rw (sym (front_of-append p ps rest ends ∙ spelled_front s)) at s.1.different)

-- The reading takes as much as can be taken.

skip_first-length : (test : Text → Bool) (ps : List Text) → length (skip_first test ps) ≤ length ps
skip_first-length test [] = omega arith
skip_first-length test (p ∷ ps) = grind (arith, cond_both)

pub length-past : (test : Text → Bool) (ps : List Text) → length (past test ps) ≤ length ps
length-past test [] = omega arith
length-past test (p ∷ ps) = grind (arith, cond_both, length-past test ps)

skip_taken : (test : Text → Bool) (ps more : List Text) → AllByRecursion (Passes test) ps →
    length (past test (ps ++ more)) ≤ length more
skip_taken test [] more h = length-past test more
skip_taken test (p ∷ ps) more h = rw h.0 (skip_taken test ps more h.1)

after_words : (s r : Option Text) (vs more : List Text) → IfSome s (IsWord Script) →
    IfSome r (IsWord Region) → AllByRecursion (IsWord Variant) vs →
    length (past (is_word Variant) (skip_first (is_word Region)
    (skip_first (is_word Script) (option_to_list s ++ (option_to_list r ++ (vs ++ more))))))
    ≤ length more
after_words None None [] more hs hr hv = omega (arith, length-past, skip_first-length)
after_words None None (v ∷ vs) more hs hr hv = grind (arith, variant_no_script, variant_no_region, skip_taken)
after_words None (Some r) vs more hs hr hv = grind (arith, region_no_script, skip_taken)
after_words (Some s) None [] more hs hr hv = rw hs (omega (arith, length-past, skip_first-length))
after_words (Some s) None (v ∷ vs) more hs hr hv = grind (arith, variant_no_region, skip_taken)
after_words (Some s) (Some r) vs more hs hr hv = grind (arith, skip_taken)

longer : (xs ys zs ws : List Text) → xs ++ ys ≡ zs ++ ws → length ys ≤ length ws → length zs ≤ length xs
longer xs ys zs ws e h = omega (arith, length-append xs ys, length-append zs ws, ap length e)

pub front_is_front : {T : ℕ → Bool} (p : Text) (ps : List Text) → IsWord (Language T) p →
    IdentifierFront T (p ∷ ps) (front_of (p ∷ ps)) (after_front (p ∷ ps))
unfolding after_front
front_is_front p ps h = grind (arith, front_words, pieces-front_of, longer, append_assoc, after_words)
