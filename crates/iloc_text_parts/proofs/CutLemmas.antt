-- Where the parts of a locale stand in its normal text.
use Rattle.std.proofs.Common.{◌≡◌, ℕ, ◌-◌, ◌≤◌, Bool, true, false, List, [], ◌∷◌, ◌++◌, length, take, suc, flat_map, refl, sym, ap, ◌∙◌, subst, arith, append_assoc, unwrap_or, Option, Some, None, IfSome, option_to_list}
use Rattle.std.specs.Char.{to_ascii_lowercase, is_ascii_alphanumeric}
use Rattle.std.specs.List.{AllByRecursion}
use Rattle.std.proofs.lemmas.Bool.{false_from_ne_true}
use Rattle.std.proofs.lemmas.Bool.Decides.{nat_tests}
use Rattle.iloc_spec_grammar.specs.Syntax.{Text, Block, IsHyphenFree, IsWord, Kind, Region, Script, Variant, dashes, first_piece, identifier_pieces, is_word, languages, pieces}
use Rattle.iloc_spec_grammar.specs.Meaning.{Locale, Extensions}
use Rattle.iloc_spec_grammar.specs.Reading.{passing, past, rest_of, skip_first, take_first}
use Rattle.iloc_spec_grammar.specs.Tree.{before_t, after_t}
use Rattle.iloc_spec_grammar.specs.Values.{AreWellFormed, IsNormal, IsValue, IsWellFormed, text, identifier_text, extensions_spelling, other_spelling, printed_pieces, private_spelling, transform_spelling, unicode_spelling, transform_block}
use Rattle.iloc_spec_grammar.proofs.Corollaries.{means_a_value, means_tests}
use Rattle.iloc_spec_grammar.proofs.PartTexts.{spelling_of_parts, text_of_parts}
use Rattle.iloc_spec_grammar.proofs.PiecesLaws.{pieces-join}
use Rattle.iloc_spec_grammar.proofs.ReadBack.{word_hyphen_free, printed_each}
use Rattle.iloc_spec_grammar.proofs.SameText.{pieces_are}
use Rattle.iloc_spec_grammar.proofs.WordsLaws.{length-script, length-region, length-variant, region_no_script, variant_no_region, variant_no_script}
use Rattle.iloc_text_parts.specs.Tails.{is_longer}
use Rattle.iloc_text_parts.proofs.TailLemmas.{before_tail}

-- pieces at whose first one a test ends

abbrev pub Stops : (Text → Bool) → List Text → Type 0
Stops test [] = Unit {0}
Stops test (p ∷ ps) = test p ≡ false

stops_append : (test : Text → Bool) (xs ys : List Text) → AllByRecursion (λ p. test p ≡ false) xs
    → Stops test ys → Stops test (xs ++ ys)
stops_append test [] ys h s = s
stops_append test (x ∷ xs) ys h s = h.0

pub split_passing : (test : Text → Bool) (xs ys : List Text) → AllByRecursion (λ p. test p ≡ true) xs
    → Stops test ys → (passing test (xs ++ ys) ≡ xs) × (past test (xs ++ ys) ≡ ys)
split_passing test [] [] h s = (refl, refl)
split_passing test [] (y ∷ ys) h s = (rw s refl, rw s refl)
split_passing test (x ∷ xs) ys h s =
    let rest = split_passing test xs ys h.1 s in
    (rw h.0 (ap (λ l. x ∷ l) rest.0), rw h.0 rest.1)

optional_first : (test : Text → Bool) (o : Option Text) (qs : List Text) → IfSome o (λ p. test p ≡ true)
    → Stops test qs
    → (take_first test (option_to_list o ++ qs) ≡ o) × (skip_first test (option_to_list o ++ qs) ≡ qs)
optional_first test None [] h s = (refl, refl)
optional_first test None (q ∷ qs) h s = (rw s refl, rw s refl)
optional_first test (Some p) qs h s = (rw h refl, rw h refl)

-- pieces of which the first has one byte, as that of an extension has

abbrev pub Begins : List Text → Type 0
Begins [] = Unit {0}
Begins (p ∷ ps) = length p ≡ 1

begins_append : (xs ys : List Text) → Begins xs → Begins ys → Begins (xs ++ ys)
begins_append [] ys h g = g
begins_append (x ∷ xs) ys h g = h

begins_printed : (c : ℕ) (ps : List Text) → Begins (printed_pieces (c, ps))
begins_printed c [] = tt
begins_printed c (p ∷ ps) = refl

begins_others : (os : List Block) → Begins (flat_map other_spelling os)
unfolding other_spelling
begins_others [] = tt
begins_others (o ∷ os) = begins_append (printed_pieces o) _ (begins_printed o.0 o.1) (begins_others os)

pub begins_behind : (os : List Block) (ws : List Text)
    → Begins (flat_map other_spelling os ++ private_spelling ws)
unfolding private_spelling
begins_behind os ws = begins_append (flat_map other_spelling os) _ (begins_others os) (begins_printed 120 ws)

pub begins_extensions : (e : Extensions) → Begins (extensions_spelling e)
unfolding transform_spelling unicode_spelling
begins_extensions e =
    subst Begins (sym (spelling_of_parts e))
    (begins_append (flat_map other_spelling (before_t e.others)) _ (begins_others (before_t e.others))
    (begins_append (transform_spelling e.transform) _
    (begins_printed (transform_block e.transform).0 (transform_block e.transform).1)
    (begins_append (unicode_spelling e.unicode) _ (begins_printed 117 _)
    (begins_behind (after_t e.others) e.private))))

stops_at : (test : Text → Bool) (ps : List Text) → ((p : Text) → length p ≡ 1 → test p ≡ false) → Begins ps
    → Stops test ps
stops_at test [] f b = tt
stops_at test (p ∷ ps) f b = f p b

pub not_longer : (n : ℕ) → 1 ≤ n → (p : Text) → length p ≡ 1 → is_longer n p ≡ false
not_longer n h p e = grind (arith, nat_tests)

pub is_longer_than : (n : ℕ) (p : Text) → suc n ≤ length p → is_longer n p ≡ true
is_longer_than n p h = grind (arith, nat_tests)

one_no_script : (p : Text) → length p ≡ 1 → is_word Script p ≡ false
one_no_script p e = false_from_ne_true _ (λ s. let l = length-script p s in absurd (omega arith))

one_no_region : (p : Text) → length p ≡ 1 → is_word Region p ≡ false
one_no_region p e = false_from_ne_true _ (λ s. let l = length-region p s in absurd (omega arith))

-- what holds of all normal words holds of all words

of_optional : (k : Kind) (o : Option Text) → IfSome o (IsNormal k) → IfSome o (IsWord k)
of_optional k None h = tt
of_optional k (Some w) h = h.0

of_all : (k : Kind) (P : Text → Type 0) → ((p : Text) → IsWord k p → P p) → (ws : List Text)
    → AllByRecursion (IsNormal k) ws → AllByRecursion P ws
of_all k P f [] h = tt
of_all k P f (w ∷ ws) h = (f w h.0.0, of_all k P f ws h.1)

of_option : (k : Kind) (P : Text → Type 0) → ((p : Text) → IsWord k p → P p) → (o : Option Text)
    → IfSome o (IsNormal k) → AllByRecursion P (option_to_list o)
of_option k P f None h = tt
of_option k P f (Some w) h = (f w h.0, tt)

one_hyphen_free : (c : ℕ) → is_ascii_alphanumeric (to_ascii_lowercase c) ≡ true → IsHyphenFree (c ∷ [])
one_hyphen_free c h = grind (arith, nat_tests)

-- the pieces of a normal text

module _ (M : Locale) (w : IsWellFormed M) where
  pub is_value : IsValue languages M
  is_value = means_a_value (text M) M w

  pub is_tested : AreWellFormed M.extensions
  is_tested = means_tests (text M) M w

  abbrev pub rest : List Text
  rest = extensions_spelling M.extensions

  pub hyphen_free : AllByRecursion IsHyphenFree (identifier_pieces M.id ++ rest)
  hyphen_free = subst (AllByRecursion IsHyphenFree) (sym (pieces_are M))
      (printed_each M is_value is_tested IsHyphenFree word_hyphen_free one_hyphen_free)

  pub all_pieces : pieces (text M) ≡ identifier_pieces M.id ++ rest
  all_pieces = pieces-join M.id.language _ hyphen_free

  in_turn : identifier_pieces M.id ++ rest
      ≡ M.id.language
      ∷ (option_to_list M.id.script ++ (option_to_list M.id.region ++ (M.id.variants ++ rest)))
  in_turn = simp append_assoc

  stops_script : Stops (is_word Script) (option_to_list M.id.region ++ (M.id.variants ++ rest))
  stops_script = stops_append (is_word Script) (option_to_list M.id.region) _
      (of_option Region (λ p. is_word Script p ≡ false) region_no_script M.id.region is_value.id.region)
      (stops_append (is_word Script) M.id.variants rest
      (of_all Variant (λ p. is_word Script p ≡ false) variant_no_script M.id.variants is_value.id.variants)
      (stops_at (is_word Script) rest one_no_script (begins_extensions M.extensions)))

  stops_region : Stops (is_word Region) (M.id.variants ++ rest)
  stops_region = stops_append (is_word Region) M.id.variants rest
      (of_all Variant (λ p. is_word Region p ≡ false) variant_no_region M.id.variants is_value.id.variants)
      (stops_at (is_word Region) rest one_no_region (begins_extensions M.extensions))

  by_script : (take_first (is_word Script) (option_to_list M.id.script ++ (option_to_list M.id.region
      ++ (M.id.variants ++ rest))) ≡ M.id.script)
      × (skip_first (is_word Script) (option_to_list M.id.script ++ (option_to_list M.id.region
      ++ (M.id.variants ++ rest))) ≡ option_to_list M.id.region ++ (M.id.variants ++ rest))
  by_script = optional_first (is_word Script) M.id.script _
      (of_optional Script M.id.script is_value.id.script) stops_script

  by_region : (take_first (is_word Region) (option_to_list M.id.region ++ (M.id.variants ++ rest))
      ≡ M.id.region)
      × (skip_first (is_word Region) (option_to_list M.id.region ++ (M.id.variants ++ rest))
      ≡ M.id.variants ++ rest)
  by_region = optional_first (is_word Region) M.id.region _
      (of_optional Region M.id.region is_value.id.region) stops_region

  by_variants : (passing (is_longer 1) (M.id.variants ++ rest) ≡ M.id.variants)
      × (past (is_longer 1) (M.id.variants ++ rest) ≡ rest)
  by_variants = split_passing (is_longer 1) M.id.variants rest
      (of_all Variant (λ p. is_longer 1 p ≡ true)
      (λ p h. is_longer_than 1 p (let l = length-variant p h in omega arith)) M.id.variants
      is_value.id.variants)
      (stops_at (is_longer 1) rest (not_longer 1 (omega arith)) (begins_extensions M.extensions))

  -- what is cut out of it, one part after the other
  module _ (n : Text) (e : n ≡ text M) where
    all_of : pieces n ≡ M.id.language
        ∷ (option_to_list M.id.script ++ (option_to_list M.id.region ++ (M.id.variants ++ rest)))
    all_of = ap pieces e ∙ all_pieces ∙ in_turn

    pub first_is : first_piece (pieces n) ≡ M.id.language
    first_is = ap first_piece all_of

    pub after_first : rest_of (pieces n)
        ≡ option_to_list M.id.script ++ (option_to_list M.id.region ++ (M.id.variants ++ rest))
    after_first = ap rest_of all_of

    pub script_is : (ps : List Text) → ps ≡ rest_of (pieces n) → (s : Text)
        → s ≡ unwrap_or (take_first (is_word Script) ps) []
        → s ≡ unwrap_or M.id.script []
    script_is ps a s h = h ∙ ap (λ l. unwrap_or (take_first (is_word Script) l) []) (a ∙ after_first)
        ∙ ap (λ o. unwrap_or o []) by_script.0

    pub after_script_is : (ps : List Text) → ps ≡ rest_of (pieces n)
        → skip_first (is_word Script) ps ≡ option_to_list M.id.region ++ (M.id.variants ++ rest)
    after_script_is ps a = ap (skip_first (is_word Script)) (a ∙ after_first) ∙ by_script.1

    pub region_is : (ps : List Text)
        → ps ≡ option_to_list M.id.region ++ (M.id.variants ++ rest) → (r : Text)
        → r ≡ unwrap_or (take_first (is_word Region) ps) []
        → r ≡ unwrap_or M.id.region []
    region_is ps a r h = h ∙ ap (λ l. unwrap_or (take_first (is_word Region) l) []) a
        ∙ ap (λ o. unwrap_or o []) by_region.0

    pub after_region_is : (ps : List Text)
        → ps ≡ option_to_list M.id.region ++ (M.id.variants ++ rest)
        → skip_first (is_word Region) ps ≡ M.id.variants ++ rest
    after_region_is ps a = ap (skip_first (is_word Region)) a ∙ by_region.1

    pub variants_are : (ps : List Text) → ps ≡ M.id.variants ++ rest → (v : Text)
        → v ≡ dashes (passing (is_longer 1) ps) → v ≡ dashes M.id.variants
    variants_are ps a v h = h ∙ ap (λ l. dashes (passing (is_longer 1) l)) a ∙ ap dashes by_variants.0

    pub extensions_are : (ps : List Text) → ps ≡ M.id.variants ++ rest → (x : Text)
        → x ≡ dashes (past (is_longer 1) ps) → x ≡ dashes rest
    extensions_are ps a x h = h ∙ ap (λ l. dashes (past (is_longer 1) l)) a ∙ ap dashes by_variants.1

    pub base_is : (x : Text) → x ≡ dashes rest → take (length n - length x) n ≡ identifier_text M.id
    base_is x h = before_tail n (identifier_text M.id) x
        (e ∙ text_of_parts M ∙ ap (λ l. identifier_text M.id ++ l) (sym h))
