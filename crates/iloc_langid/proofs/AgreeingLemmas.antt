-- Pieces that are, in whatever order and case, the words of a set.
use Rattle.std.proofs.Common.{◌≡◌, Bool, true, false, ◌||◌, List, [], ◌∷◌, length, map, refl, sym, ap, ◌∙◌, subst, arith, true≢false, Option, Some, None, option_map, nat_eq}
use Rattle.std.specs.Option.{option_eq}
use Rattle.std.specs.Cmp.Lexicographic.{pointwise, same_text, other_text}
use Rattle.std.specs.List.{AllByRecursion, list_any, list_all}
use Rattle.std.specs.Ordering.{is_eq}
use Rattle.std.specs.FinMap.{put}
use Rattle.std.specs.declared.cmp.Ordering.{Ordering}
use Rattle.std.specs.declared.cmp.Ordering.TheVariants.{Less, Equal, Greater}
use Rattle.std.proofs.lemmas.Bool.{and_parts, and_from, or_parts, false_from_ne_true}
use Rattle.std.proofs.lemmas.List.{length-map}
use Rattle.iloc_spec_grammar.specs.Syntax.{Text, Language, Script, Region, Variant, is_word, IsWord, lower, title, upper, word_cmp, is_same, languages, SpelledIdentifier, Identifier, AllDifferent, first_piece}
use Rattle.iloc_spec_grammar.specs.Meaning.{IdentifierMeans, set_of, map_of}
use Rattle.iloc_spec_grammar.specs.Values.{IsNormal, StrictlyAscends, Reordered, none, front_kept, first_two, in_turn}
use Rattle.iloc_spec_grammar.proofs.WordsLaws.{is_word-lower}
use Rattle.iloc_spec_grammar.proofs.MapLaws.{word_cmp_total, same_itself, same_is}
use Rattle.iloc_spec_grammar.proofs.Orders.{itself, turned, any_reordered, all_reordered, different_reordered, length_reordered, set_of_reordered}
use Rattle.iloc_spec_grammar.proofs.ValuesLaws.{set_of_ascending, ascending_different}
use Rattle.iloc_langid.proofs.WalkLemmas.{apart}
use Rattle.iloc_langid.specs.Agreeing.{is_among, are_all_among}
use Rattle.iloc_spec_grammar.specs.Reading.{take_first, skip_first, passing, past, rest_of, after_region, front_of}
use Rattle.iloc_spec_grammar.proofs.ReadingLaws.{front_of-pieces, keep_all}
use Rattle.iloc_langid.specs.declared.identifier.LanguageIdentifier.{LanguageIdentifier}
use Rattle.iloc_langid.specs.Reads.{value_of}
use Rattle.iloc_spec_grammar.proofs.SetLaws.{any-set_of}
use Rattle.iloc_langid.proofs.FrontLemmas.{plain_front, plain_of, front_gives, whole_gives}
use Rattle.iloc_langid.proofs.SmallLemmas.{parts_are, after_region-pieces, past_none}

among-any : (ps : List Text) (w : Text) → is_among ps w ≡ list_any (is_same w) (map lower ps)
among-any [] w = refl
among-any (p ∷ ps) w = grind (arith, among-any ps w)

-- a word that is there, taken to the front
taken_out : (w : Text) (qs : List Text) → list_any (is_same w) qs ≡ true →
    (rest : List Text) × Reordered qs (w ∷ rest)
taken_out w [] h = absurd (true≢false (sym h))
taken_out w (q ∷ qs) h = by (is_same w q) refl h (λ k. taken_out w qs k)
  where
    by : (b : Bool) → is_same w q ≡ b → (b || list_any (is_same w) qs) ≡ true →
        (list_any (is_same w) qs ≡ true → (rest : List Text) × Reordered qs (w ∷ rest)) →
        (rest : List Text) × Reordered (q ∷ qs) (w ∷ rest)
    by true e k more = (qs, subst (λ x. Reordered (q ∷ qs) (x ∷ qs)) (sym (same_is w q e)) (itself (q ∷ qs)))
    by false e k more = let (rest, r) = more k in (q ∷ rest, in_turn (front_kept r) first_two)

later : (a b : Bool) → (a || b) ≡ true → a ≡ false → b ≡ true
later a b h e = subst (λ x. (x || b) ≡ true) e h

still_there : (w : Text) (qs rest : List Text) → Reordered qs (w ∷ rest) → (vs : List Text) →
    list_any (is_same w) vs ≡ false
    → AllByRecursion (λ v. list_any (is_same v) qs ≡ true) vs →
    AllByRecursion (λ v. list_any (is_same v) rest ≡ true) vs
still_there w qs rest r [] d h = tt
still_there w qs rest r (v ∷ vs) d h =
    let parts = or_parts _ _ d in (
      later _ _ (sym (any_reordered (is_same v) r) ∙ h.0) (apart w v parts.0),
      still_there w qs rest r vs parts.1 h.1,
    )

-- as many words, and each of them there: the same ones
all_there : (ws qs : List Text) → AllDifferent word_cmp ws → length qs ≡ length ws →
    AllByRecursion (λ w. list_any (is_same w) qs ≡ true) ws → Reordered qs ws
all_there [] [] d e h = none
all_there [] (q ∷ qs) d e h = absurd (omega (arith, e))
all_there (w ∷ ws) qs d e h =
    let (rest, r) = taken_out w qs h.0 in
    let l = length_reordered r in
    let k : length rest ≡ length ws = omega (arith, e, l) in
    in_turn r
    (front_kept (all_there ws rest d.1 k (still_there w qs rest r ws (false_from_ne_true _ d.0) h.1)))

-- a set of different words has these words
put_reordered : (w : Text) (es : List (Text × Text)) →
    list_any (is_same w) (map (λ e. e.0) es) ≡ false →
    Reordered (w ∷ map (λ e. e.0) es) (map (λ e. e.0) (put word_cmp w w es))
put_reordered w [] h = itself (w ∷ [])
put_reordered w (e ∷ es) h = by (word_cmp w e.0) refl (put_reordered w es (or_parts _ _ h).1)
  where
    by : (o : Ordering) → word_cmp w e.0 ≡ o →
        Reordered (w ∷ map (λ e. e.0) es) (map (λ e. e.0) (put word_cmp w w es)) →
        Reordered (w ∷ e.0 ∷ map (λ e. e.0) es) (map (λ e. e.0) (put word_cmp w w (e ∷ es)))
    by Less l more = rw l (itself (w ∷ e.0 ∷ map (λ e. e.0) es))
    by Equal l more = absurd (true≢false (sym (ap is_eq l) ∙ (or_parts _ _ h).0))
    by Greater l more = rw l (in_turn first_two (front_kept more))

set_reordered : (ws : List Text) → AllDifferent word_cmp ws → Reordered ws (set_of ws)
set_reordered [] d = none
set_reordered (w ∷ ws) d = in_turn (front_kept (set_reordered ws d.1)) (put_reordered w
    (map_of word_cmp (map (λ w. (w, w)) ws)) (any-set_of w ws ∙ false_from_ne_true _ d.0))

all_tests : (test : Text → Bool) (ws : List Text) → list_all test ws ≡ true →
    AllByRecursion (λ w. test w ≡ true) ws
all_tests test [] h = tt
all_tests test (w ∷ ws) h = let parts = and_parts _ _ h in (parts.0, all_tests test ws parts.1)

tests_all : (test : Text → Bool) (ws : List Text) → AllByRecursion (λ w. test w ≡ true) ws →
    list_all test ws ≡ true
tests_all test [] h = refl
tests_all test (w ∷ ws) h = and_from _ _ h.0 (tests_all test ws h.1)

among_all : (ps ws : List Text) → AllByRecursion (λ w. is_among ps w ≡ true) ws →
    AllByRecursion (λ w. list_any (is_same w) (map lower ps) ≡ true) ws
among_all ps [] h = tt
among_all ps (w ∷ ws) h = (sym (among-any ps w) ∙ h.0, among_all ps ws h.1)

all_among : (ps ws : List Text) → AllByRecursion (λ w. list_any (is_same w) (map lower ps) ≡ true) ws →
    AllByRecursion (λ w. is_among ps w ≡ true) ws
all_among ps [] h = tt
all_among ps (w ∷ ws) h = (among-any ps w ∙ h.0, all_among ps ws h.1)

lower_variants : (ps : List Text) → AllByRecursion (IsWord Variant) (map lower ps) →
    AllByRecursion (IsWord Variant) ps
lower_variants [] h = tt
lower_variants (p ∷ ps) h = (sym (is_word-lower Variant p) ∙ h.0, lower_variants ps h.1)

normal_variants : (ws : List Text) → AllByRecursion (IsNormal Variant) ws →
    AllByRecursion (IsWord Variant) ws
normal_variants [] h = tt
normal_variants (w ∷ ws) h = (h.0.0, normal_variants ws h.1)

-- pieces that have the variants are variants, all different, and their set is that of the variants
pub record AreThese (ps ws : List Text) : Type 0 where
  pub words : AllByRecursion (IsWord Variant) ps
  pub different : AllDifferent word_cmp (map lower ps)
  pub set_is : ws ≡ set_of (map lower ps)

pub are_these : (ps ws : List Text) → StrictlyAscends word_cmp ws → AllByRecursion (IsNormal Variant) ws →
    length ps ≡ length ws → are_all_among ps ws ≡ true → AreThese ps ws
are_these ps ws up n e h =
    let r = all_there ws (map lower ps) (ascending_different ws up) (length-map ps lower ∙ e)
    (among_all ps ws (all_tests (is_among ps) ws h)) in
    record {
      words = lower_variants ps (all_reordered (IsWord Variant) (turned r) (normal_variants ws n));
      different = different_reordered word_cmp word_cmp_total (turned r) (ascending_different ws up);
      set_is = sym (set_of_reordered r ∙ set_of_ascending ws up);
    }

each_there : (ws qs : List Text) →
    ((w : Text) → list_any (is_same w) ws ≡ true → list_any (is_same w) qs ≡ true) →
    AllByRecursion (λ w. list_any (is_same w) qs ≡ true) ws
each_there [] qs f = tt
each_there (w ∷ ws) qs f = grind (arith, same_itself, each_there ws qs)

pub these_are : (ps ws : List Text) → AreThese ps ws →
    (length ps ≡ length ws) × (are_all_among ps ws ≡ true)
these_are ps ws t =
    let r : Reordered (map lower ps) ws =
    subst (Reordered (map lower ps)) (sym t.set_is) (set_reordered (map lower ps) t.different) in (
      sym (length-map ps lower) ∙ length_reordered r,
      tests_all (is_among ps) ws
          (all_among ps ws (each_there ws (map lower ps) (λ w h. any_reordered (is_same w) r ∙ h))),
    )

-- what a test of two optional words has told

pub same_option : (a b : Option Text) → option_eq (pointwise nat_eq) a b ≡ true → a ≡ b
same_option None None h = refl
same_option None (Some w) h = absurd (true≢false (sym h))
same_option (Some v) None h = absurd (true≢false (sym h))
same_option (Some v) (Some w) h = ap Some (same_text v w (sym h))

pub other_option : (a b : Option Text) → option_eq (pointwise nat_eq) a b ≡ false → a ≡ b → ⊥
other_option None None h e = true≢false h
other_option None (Some w) h e = cc
other_option (Some v) None h e = cc
other_option (Some v) (Some w) h e = other_text v w (sym h) cc

-- The parts of an identifier, taken one after the other from pieces.
module _ (ps : List Text) (first : Text) (qs rs us : List Text) (i : LanguageIdentifier)
    (l : Text) (s r : Option Text)
    (e : ps ≡ first ∷ qs) (w : IsWord (Language languages) first) (le : l ≡ lower first)
    (se : s ≡ option_map title (take_first (is_word Script) qs)) (er : rs ≡ skip_first (is_word Script) qs)
    (re : r ≡ option_map upper (take_first (is_word Region) rs))
    (eu : us ≡ skip_first (is_word Region) rs) where
  after : us ≡ after_region ps
  after = grind arith

  module _ (m : IdentifierMeans languages ps (value_of i)) where
    front_is : front_of ps ≡ m.written
    front_is = ap front_of m.spelled ∙ front_of-pieces m.written m.grammatical.words

    pub language_is : l ≡ i.language
    language_is = le ∙ ap (λ x. lower (first_piece x)) (sym e)
        ∙ ap lower (sym (parts_are ps).0 ∙ ap (λ (j : SpelledIdentifier). j.language) front_is)
        ∙ sym (ap (λ (j : Identifier). j.language) m.means)

    pub script_is : s ≡ i.script
    script_is = se ∙ ap (λ x. option_map title (take_first (is_word Script) (rest_of x))) (sym e)
        ∙ ap (option_map title) (sym (parts_are ps).1 ∙ ap (λ (j : SpelledIdentifier). j.script) front_is)
        ∙ sym (ap (λ (j : Identifier). j.script) m.means)

    pub region_is : r ≡ i.region
    region_is = re
        ∙ ap (λ x. option_map upper (take_first (is_word Region) x))
        (er ∙ ap (λ x. skip_first (is_word Script) (rest_of x)) (sym e))
        ∙ ap (option_map upper) (sym (parts_are ps).2 ∙ ap (λ (j : SpelledIdentifier). j.region) front_is)
        ∙ sym (ap (λ (j : Identifier). j.region) m.means)

    pub variants_are : AreThese us i.variants
    variants_are =
        let v : us ≡ m.written.variants =
        after ∙ ap after_region m.spelled ∙ after_region-pieces m.written m.grammatical.words in
        subst (λ x. AreThese x i.variants) (sym v) (record {
          words = m.grammatical.words.variants;
          different = m.grammatical.different;
          set_is = ap (λ (j : Identifier). j.variants) m.means;
        })

  pub all_mean : l ≡ i.language → s ≡ i.script → r ≡ i.region → AreThese us i.variants →
      IdentifierMeans languages ps (value_of i)
  all_mean a b c v =
      whole_gives ps [] i (front_gives ps us [] i
      (plain_front ps first qs rs us (plain_of i) e w (sym a ∙ le) (sym b ∙ se) er (sym c ∙ re) eu) (
        v.set_is ∙ ap (λ x. set_of (map lower x)) (sym all),
        subst (λ x. AllDifferent word_cmp (map lower x)) (sym all) v.different,
        sym none_after,
      )) refl
    where
      all : passing (is_word Variant) us ≡ us
      all = keep_all (is_word Variant) us v.words

      none_after : past (is_word Variant) us ≡ []
      none_after = past_none us all
