-- Words that name the whole of a region, or nothing.
use Rattle.std.proofs.Common.{◌≡◌, ℕ, ◌-◌, ◌≤◌, Bool, true, false, [], ◌∷◌, length, take, drop, Option, Some, None, refl, sym, ap, subst, ◌∙◌, arith, Err, nat_eq}
use Rattle.std.specs.Prelude.{IfSome, if◌then◌else◌, option_and_then, ok_or}
use Rattle.std.specs.Result.{result_ok}
use Rattle.std.specs.Char.{is_ascii_alphabetic}
use Rattle.std.proofs.lemmas.Bool.Decides.{nat_tests}
use Rattle.iloc_spec_grammar.specs.Syntax.{Text, Region, Subtag, SubdivisionSuffix, is_word, word, lower, upper, is_same}
use Rattle.iloc_spec_grammar.specs.Meaning.{InvalidSubtag, InvalidExtension}
use Rattle.iloc_spec_parts.specs.Subdivisions.{Subdivision, both_words}
use Rattle.iloc_spec_parts.specs.DataLocales.{whole, is_whole, named_subdivision}
use Rattle.iloc_spec_grammar.proofs.MapLaws.{same_is}
use Rattle.std.specs.Cmp.Lexicographic.{pointwise}
use Rattle.iloc_data_parts.proofs.RegionLemmas.{words_tie}

-- the word, where it names a part of a region
abbrev part_named : Option Subdivision → Text → Option Text
part_named named w = option_and_then (λ s. if is_whole s then None else Some w) named

-- of a word that is a subtag or not, its region and its suffix
abbrev named_by : Bool → Option Text → Option Text → Option Subdivision
named_by subtag region suffix =
    result_ok (if subtag then ok_or (both_words region suffix) InvalidExtension else Err InvalidSubtag)

whole_suffix : (subtag : Bool) (region suffix : Option Text) (w : Text) →
    IfSome suffix (λ s. is_same s whole ≡ true) → part_named (named_by subtag region suffix) w ≡ None
whole_suffix false region suffix w h = refl
whole_suffix true None suffix w h = refl
whole_suffix true (Some r) None w h = refl
whole_suffix true (Some r) (Some s) w h = ap (λ b. if b then None else Some w) h

no_region : (subtag : Bool) (region suffix : Option Text) (w : Text) → region ≡ None →
    part_named (named_by subtag region suffix) w ≡ None
no_region subtag region suffix w e = ap (λ r. part_named (named_by subtag r suffix) w) e ∙ whole_less subtag
  where
    whole_less : (subtag : Bool) → part_named (named_by subtag None suffix) w ≡ None
    whole_less true = refl
    whole_less false = refl

none_is : (suffix : Option Text) → suffix ≡ None → IfSome suffix (λ s. is_same s whole ≡ true)
none_is None e = tt
none_is (Some s) e = cc

whole_is_whole : IfSome (word SubdivisionSuffix whole) (λ s. is_same s whole ≡ true)
unfolding is_word lower
whole_is_whole = refl

no_digits : (a b : ℕ) → is_word Region (a ∷ b ∷ 122 ∷ []) ≡ false
unfolding is_word
no_digits a b = grind (arith, nat_tests)

too_long : (c : ℕ) → is_word SubdivisionSuffix (c ∷ whole) ≡ false
unfolding is_word
too_long c = refl

after_two : (a b : ℕ) → part_named (named_subdivision (a ∷ b ∷ whole)) (a ∷ b ∷ whole) ≡ None
after_two a b = by (is_ascii_alphabetic a)
  where
    w : Text
    w = a ∷ b ∷ whole

    by : (letter : Bool) →
        part_named
        (named_by (is_word Subtag w) (word Region (take (if letter then 2 else 3) w))
        (word SubdivisionSuffix (drop (if letter then 2 else 3) w))) w
        ≡ None
    by true = whole_suffix (is_word Subtag w) _ _ w whole_is_whole
    by false = no_region (is_word Subtag w) _ _ w
        (ap (λ is. if is then Some (upper (a ∷ b ∷ 122 ∷ [])) else None) (no_digits a b))

after_three : (a b c : ℕ) → part_named (named_subdivision (a ∷ b ∷ c ∷ whole)) (a ∷ b ∷ c ∷ whole) ≡ None
after_three a b c = by (is_ascii_alphabetic a)
  where
    w : Text
    w = a ∷ b ∷ c ∷ whole

    no_suffix : word SubdivisionSuffix (c ∷ whole) ≡ None
    no_suffix = ap (λ is. if is then Some (lower (c ∷ whole)) else None) (too_long c)

    by : (letter : Bool) →
        part_named
        (named_by (is_word Subtag w) (word Region (take (if letter then 2 else 3) w))
        (word SubdivisionSuffix (drop (if letter then 2 else 3) w))) w
        ≡ None
    by true = whole_suffix (is_word Subtag w) _ _ w (none_is _ no_suffix)
    by false = whole_suffix (is_word Subtag w) _ _ w whole_is_whole

same_end : (w : Text) → pointwise nat_eq whole w ≡ true → whole ≡ w
same_end w h = same_is whole w (sym (words_tie whole w) ∙ h)

pub named_whole : (w : Text) → 6 ≤ length w → length w ≤ 7 →
    pointwise nat_eq whole (drop (length w - 4) w) ≡ true → part_named (named_subdivision w) w ≡ None
named_whole [] l u h = absurd (omega (arith, l))
named_whole (a ∷ []) l u h = absurd (omega (arith, l))
named_whole (a ∷ b ∷ []) l u h = absurd (omega (arith, l))
named_whole (a ∷ b ∷ c ∷ []) l u h = absurd (omega (arith, l))
named_whole (a ∷ b ∷ c ∷ d ∷ []) l u h = absurd (omega (arith, l))
named_whole (a ∷ b ∷ c ∷ d ∷ e ∷ []) l u h = absurd (omega (arith, l))
named_whole (a ∷ b ∷ c ∷ d ∷ e ∷ f ∷ []) l u h =
    subst (λ s. part_named (named_subdivision (a ∷ b ∷ s)) (a ∷ b ∷ s) ≡ None)
    (same_end (c ∷ d ∷ e ∷ f ∷ []) h) (after_two a b)
named_whole (a ∷ b ∷ c ∷ d ∷ e ∷ f ∷ g ∷ []) l u h =
    subst (λ s. part_named (named_subdivision (a ∷ b ∷ c ∷ s)) (a ∷ b ∷ c ∷ s) ≡ None)
    (same_end (d ∷ e ∷ f ∷ g ∷ []) h) (after_three a b c)
named_whole (a ∷ b ∷ c ∷ d ∷ e ∷ f ∷ g ∷ i ∷ w) l u h = absurd (omega (arith, u))
