-- Preferences: what extending and the way to a locale and back keep.
use Rattle.std.proofs.Common.{◌≡◌, ◌≢◌, ℕ, Bool, true, false, cond, List, [], ◌∷◌, ◌++◌, length, arith, refl, sym, ap, Option, Some, None, Ok, Err, IfSome, option_map, option_and_then, codes, length-append, true≢false, ◌&&◌, ◌||◌, is_none, is_some}
use Rattle.std.specs.Option.{option_or}
use Rattle.std.specs.Result.{result_ok}
use Rattle.std.specs.List.{AllByRecursion}
use Rattle.std.specs.FinMap.{find, is_sorted}
use Rattle.iloc_spec_grammar.specs.Syntax.{Field, Text, AreLengths, Subtag, UnicodeKey, word_cmp, is_same, is_word, lower, is_true}
use Rattle.iloc_spec_grammar.specs.Meaning.{Locale}
use Rattle.iloc_spec_grammar.specs.Values.{IsNormal, IsValue, IsWellFormed}
use Rattle.iloc_spec_grammar.proofs.ValuesLaws.{all_weaker}
use Rattle.iloc_spec_grammar.proofs.Corollaries.{well_formed_value}
use Rattle.iloc_spec_grammar.proofs.WordsLaws.{length-lower, length-region}
use Rattle.iloc_spec_parts.specs.Subdivisions.{Subdivision, IsSubdivision, subdivision, subdivision_text}
use Rattle.iloc_spec_parts.specs.DataLocales.{is_whole, whole}
use Rattle.iloc_spec_parts.specs.Keywords.{subdivision_reads, subdivision_gives}
use Rattle.std.proofs.lemmas.Bool.{and_parts, and_from, false_from_ne_true, cond_both}
use Rattle.iloc_spec_parts.specs.Preferences.{is_strict, same_region, Preferences, IsPreferences, SpellsNoTrue, und, default_preferences, preferred_region, preferences, merge_language, merge_region, merge, sd_entry, rg_entry, locale_of_preferences}
use Rattle.iloc_spec_parts.specs.Formatters.{FormatPreferences, TimePreferences, plain_time, plain_format, merge_time, merge_format}
use Rattle.iloc_spec_parts.proofs.Keys.{sd, rg}
use Rattle.iloc_spec_parts.proofs.SmallLaws.{first-option}
use Rattle.iloc_spec_parts.proofs.SubdivisionLaws.{subdivision_back, subdivision_is_subtag, text_of_read, read_is_long, read_is_subdivision}
use Rattle.iloc_spec_parts.proofs.DataLaws.{sd_key, whole_region_is}
use Rattle.iloc_spec_parts.proofs.SmallBack.{one_normal, one_ascends}
use Rattle.iloc_spec_grammar.proofs.MapLaws.{same_itself, same_is}

-- extending

or_none : {X : Type 0} (o : Option X) → option_or o None ≡ o
or_none None = refl
or_none (Some x) = refl

or_same : {X : Type 0} (o : Option X) → option_or o o ≡ o
or_same None = refl
or_same (Some x) = refl

both_alike : {X : Type 0} (b : Bool) (x : X) → cond b x x ≡ x
both_alike true x = refl
both_alike false x = refl

pub merge_itself : (a : Preferences) → merge a a ≡ a
merge_itself a = grind (arith, both_alike, or_same)

pub default_merge : (a : Preferences) → merge default_preferences a ≡ a
default_merge a = λ i. record {
  language = language_merged i;
  script = or_none a.script i;
  region = region_merged a.region i;
  variant = or_none a.variant i;
  region_override = or_none a.region_override i;
}
  where
    region_merged : (r : Option Subdivision) → merge_region None r ≡ r
    region_merged None = refl
    region_merged (Some s) = refl

    language_merged : merge_language und a.language ≡ a.language
    language_merged = elim (is_same a.language und)
        as (λ b. is_same a.language und ≡ b → cond b und a.language ≡ a.language)
        [ true ↦ λ e. sym (same_is a.language und e) | false ↦ λ e. refl ] refl

-- to a locale and back

find_sd : (o s : Option Subdivision) →
    find word_cmp sd (rg_entry o ++ sd_entry s) ≡ find word_cmp sd (sd_entry s)
find_sd None s = refl
find_sd (Some x) s = refl

find_rg : (o s : Option Subdivision) →
    find word_cmp rg (rg_entry o ++ sd_entry s) ≡ find word_cmp rg (rg_entry o)
find_rg None (Some x) = grind (arith, rg, sd)
find_rg _ _ = refl

pub read_given : (s : Subdivision) → IsSubdivision s → is_true (subdivision_text s) ≡ false →
    subdivision_reads (subdivision_gives s) ≡ Some s
read_given s h n = rw (n, subdivision_back s h) refl

override_back : (o : Option Subdivision) → IfSome o IsSubdivision →
    IfSome o (λ s. is_true (subdivision_text s) ≡ false) →
    option_and_then subdivision_reads (find word_cmp rg (rg_entry o)) ≡ o
override_back None h n = refl
override_back (Some s) h n = read_given s h n

region_back : (o : Option Subdivision) → IfSome o IsSubdivision →
    IfSome o (λ s. is_true (subdivision_text s) ≡ false) →
    preferred_region (option_map (λ s. s.region) o)
    (option_and_then subdivision_reads (find word_cmp sd (sd_entry o)))
    ≡ o
region_back None h n = refl
region_back (Some s) h n = cond_both (is_whole s) _ _ (λ es.
    preferred_region (Some s.region) (option_and_then subdivision_reads (find word_cmp sd es)) ≡ Some s)
    (λ e. ap (λ x. Some (record { region = s.region; suffix = x })) (sym (same_is s.suffix whole e)))
    (search (read_given, same_itself))

pub preferences_back : {T : ℕ → Bool} (p : Preferences) → IsPreferences T p → SpellsNoTrue p →
    preferences (locale_of_preferences p) ≡ p
preferences_back p h n = search (find_sd, region_back, first-option, find_rg, override_back)

-- the locale is a well-formed value

abbrev IsEntry : Field → Type 0
IsEntry f = (IsNormal UnicodeKey f.0 × AllByRecursion (IsNormal Subtag) f.1)
    × AllByRecursion (λ w. (is_true w ≡ false) × (length w ≢ 2)) f.1

key_rg : IsNormal UnicodeKey rg
unfolding is_word lower
key_rg = (refl, refl)

given_values : (s : Subdivision) → IsSubdivision s →
    AllByRecursion (IsNormal Subtag) (subdivision_gives s)
    × AllByRecursion (λ w. (is_true w ≡ false) × (length w ≢ 2)) (subdivision_gives s)
given_values s h = cond_both (is_true (subdivision_text s)) _ _ (λ ws.
    AllByRecursion (IsNormal Subtag) ws × AllByRecursion (λ w. (is_true w ≡ false) × (length w ≢ 2)) ws)
    (λ e. (tt, tt))
    (λ e. (
      ((subdivision_is_subtag s h, sym (text_of_read _ s (subdivision_back s h))), tt),
      ((e, let l = read_is_long _ s (subdivision_back s h) in λ k. absurd (omega arith)), tt),
    ))

sd_is : (o : Option Subdivision) → IfSome o IsSubdivision → AllByRecursion IsEntry (sd_entry o)
sd_is None h = tt
sd_is (Some s) h = grind (arith, sd, given_values, sd_key)

entries_are : (o p : Option Subdivision) → IfSome o IsSubdivision → IfSome p IsSubdivision →
    AllByRecursion IsEntry (rg_entry o ++ sd_entry p)
entries_are None p h k = sd_is p k
entries_are (Some s) p h k = grind (arith, given_values, key_rg, sd_is)

entries_ascend : (o p : Option Subdivision) → is_sorted word_cmp (rg_entry o ++ sd_entry p) ≡ true
entries_ascend None None = refl
entries_ascend (Some s) None = refl
entries_ascend None (Some q) = grind (arith, sd)
entries_ascend (Some s) (Some q) = grind (arith, rg, sd)

locale_entries : (p : Preferences) → {T : ℕ → Bool} → IsPreferences T p →
    AllByRecursion IsEntry (rg_entry p.region_override ++ sd_entry p.region)
locale_entries p h = search entries_are

pub locale_is_value : {T : ℕ → Bool} (p : Preferences) → IsPreferences T p →
    IsValue T (locale_of_preferences p)
locale_is_value p h = grind (arith, one_normal, one_ascends, all_weaker, locale_entries, entries_ascend)

pub locale_is_well_formed : {T : ℕ → Bool} → AreLengths T → (p : Preferences) → IsPreferences T p →
    IsWellFormed (locale_of_preferences p)
locale_is_well_formed table p h =
    well_formed_value table (locale_of_preferences p) (locale_is_value p h) (grind (
      arith,
      all_weaker,
      locale_entries,
    ))

-- preferences of a value keep what the type keeps

read_subdivision : (o : Option (List Text)) → IfSome (option_and_then subdivision_reads o) IsSubdivision
read_subdivision (Some (w ∷ [])) =
    elim (subdivision w) as (λ r. subdivision w ≡ r → IfSome (result_ok r) IsSubdivision)
    [ Ok s ↦ λ e. read_is_subdivision w s e | Err f ↦ λ e. tt ] refl
read_subdivision _ = tt

pub preferences_are : {T : ℕ → Bool} (M : Locale) → IsValue T M → IsPreferences T (preferences M)
preferences_are {T = T} M h = grind (arith, sd, read_subdivision, rg, whole_region_is)

-- formatters

pub time_itself : (a : TimePreferences) → merge_time a a ≡ a
time_itself a = grind (arith, merge_itself, or_same)

pub default_time_merge : (a : TimePreferences) → merge_time (plain_time default_preferences) a ≡ a
default_time_merge a = grind (arith, default_merge, or_none)

pub format_itself : (a : FormatPreferences) → merge_format a a ≡ a
format_itself a = grind (arith, time_itself, or_same)

pub default_format_merge : (a : FormatPreferences) →
    merge_format (plain_format (plain_time default_preferences)) a ≡ a
default_format_merge a = grind (arith, default_time_merge, or_none)

-- the locale of preferences is strict where no subdivision spells `true`

sd_readable : (o : Option Subdivision) → IfSome o IsSubdivision →
    IfSome o (λ s. is_true (subdivision_text s) ≡ false) →
    (is_none (find word_cmp sd (sd_entry o))
    || is_some (option_and_then subdivision_reads (find word_cmp sd (sd_entry o))))
    && same_region (option_map (λ s. s.region) o)
    (option_and_then subdivision_reads (find word_cmp sd (sd_entry o)))
    ≡ true
sd_readable None h n = refl
sd_readable (Some s) h n = grind (arith, cond_both, sd, read_given, same_itself)

rg_readable : (o : Option Subdivision) → IfSome o IsSubdivision →
    IfSome o (λ s. is_true (subdivision_text s) ≡ false) →
    (is_none (find word_cmp rg (rg_entry o))
    || is_some (option_and_then subdivision_reads (find word_cmp rg (rg_entry o))))
    ≡ true
rg_readable None h n = refl
rg_readable (Some s) h n = ap is_some (read_given s h n)

pub strict_locale : {T : ℕ → Bool} (p : Preferences) → IsPreferences T p → SpellsNoTrue p →
    is_strict (locale_of_preferences p) ≡ true
strict_locale p h n = search (and_parts, sd_readable, find_sd, and_from, find_rg, rg_readable)

-- preferences come back only where no subdivision spells `true`

override_only : (s : Subdivision) → subdivision_reads (subdivision_gives s) ≡ Some s →
    is_true (subdivision_text s) ≡ false
override_only s e = grind arith

-- a whole region spells more than four letters
whole_spells : (s : Subdivision) → IsSubdivision s → s.suffix ≡ whole → is_true (subdivision_text s) ≡ false
unfolding is_true
whole_spells s h e = false_from_ne_true _ (λ q.
    let four : 4 ≡ length (subdivision_text s) = ap length (same_is (codes "true") (subdivision_text s) q) in
    grind (arith, length-append, length-lower, length-region))

region_only : (s : Subdivision) → IsSubdivision s →
    preferred_region (Some s.region)
    (option_and_then subdivision_reads (find word_cmp sd (sd_entry (Some s))))
    ≡ Some s →
    is_true (subdivision_text s) ≡ false
region_only s h = grind (arith, cond_both, sd, whole_spells, same_is, true≢false)

pub back_only : {T : ℕ → Bool} (p : Preferences) → IsPreferences T p →
    preferences (locale_of_preferences p) ≡ p → SpellsNoTrue p
back_only p h e = grind (arith, find_sd, find_rg, sd, region_only, rg, override_only)
