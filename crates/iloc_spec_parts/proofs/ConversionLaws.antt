-- Data locales of locales and identifiers.
use Rattle.std.proofs.Common.{◌≡◌, ℕ, Bool, refl, sym, ap, ◌∙◌, Option, Some, None, IfSome, Ok, Err, option_map, option_and_then, option_to_list}
use Rattle.std.proofs.lemmas.Bool.{cond_both}
use Rattle.std.specs.Option.{option_or}
use Rattle.std.specs.Result.{result_ok}
use Rattle.std.specs.FinMap.{find}
use Rattle.iloc_spec_grammar.specs.Syntax.{Text, Region, AreLengths, word_cmp, is_same, Identifier}
use Rattle.iloc_spec_grammar.specs.Meaning.{Locale, Means}
use Rattle.iloc_spec_grammar.specs.Values.{IsNormal}
use Rattle.iloc_spec_grammar.proofs.SameMeaning.{one_meaning}
use Rattle.iloc_spec_parts.specs.Small.{SmallLocale, keyword_of_small, locale_of_small}
use Rattle.iloc_spec_grammar.specs.Reading.{first_item}
use Rattle.iloc_spec_parts.specs.Subdivisions.{Subdivision, subdivision, subdivision_text}
use Rattle.iloc_spec_parts.specs.DataLocales.{DataLocale, whole_region, named_subdivision, data_key, made_of, agreed, small_part, DataMeans, data_of_identifier}
use Rattle.iloc_spec_parts.specs.Keywords.{subdivision_reads}
use Rattle.iloc_spec_parts.specs.Preferences.{identifier_preferences, preferences, language_priority, preferred_region, read_keyword}
use Rattle.iloc_spec_parts.proofs.SmallLaws.{first-option, small_means}
use Rattle.iloc_spec_parts.proofs.Keys.{sd}
use Rattle.iloc_spec_parts.proofs.SubdivisionLaws.{subdivision_back}
use Rattle.iloc_spec_parts.proofs.DataLaws.{whole_region_is}
use Rattle.iloc_spec_grammar.proofs.MapLaws.{same_is}

-- the conversion of a locale

part_of_locale : (r : SmallLocale) (p : Option Subdivision) → small_part r.id.region r.keyword ≡ Some p →
    preferred_region r.id.region (read_keyword subdivision_reads sd (locale_of_small r)) ≡ p
part_of_locale r p e = from r.id.region r.keyword e
  where
    found : Option (Text × Option Text) → Option Subdivision
    found k =
        option_and_then subdivision_reads (find word_cmp sd (option_to_list (option_map keyword_of_small k)))

    at_value : (region : Option Text) (o : Option Text) →
        option_map (λ s. Some (agreed region s)) (option_and_then named_subdivision o) ≡ Some p →
        preferred_region region (option_and_then subdivision_reads (Some (option_to_list o))) ≡ p
    at_value region None e = absurd (cc)
    at_value region (Some w) e =
        (elim (subdivision w) as (λ x. option_map (λ s. Some (agreed region s)) (result_ok x) ≡ Some p →
        preferred_region region (result_ok x) ≡ p) [
          | Err f ↦ λ e. absurd (cc)
          | Ok s ↦ λ e. cc
        ]) e

    from : (region : Option Text) (k : Option (Text × Option Text)) → small_part region k ≡ Some p →
        preferred_region region (found k) ≡ p
    from None None e = cc
    from (Some r) None e = cc
    from region (Some (k, o)) e =
        cond_both (is_same k sd) _ _ (λ x. x ≡ Some p → preferred_region region (found (Some (k, o))) ≡ p)
        (λ q e. rw (same_is k sd q) (at_value region o e))
        (λ q e. absurd (cc))
        e

pub agrees : {T : ℕ → Bool} → AreLengths T → (t : Text) (d : DataLocale) (M : Locale) → DataMeans T t d →
    Means T t M → d ≡ language_priority (preferences M)
agrees table t d M h m = from (small_part h.small.id.region h.small.keyword) refl h.means
    ∙ ap (λ (M : Locale). language_priority (preferences M))
    (one_meaning table t _ _ (small_means t h.small h.is_small) m)
  where
    from : (o : Option (Option Subdivision)) → small_part h.small.id.region h.small.keyword ≡ o →
        option_map (λ part. made_of h.small.id.language h.small.id.script part h.small.id.variant) o
        ≡ Some d →
        d ≡ language_priority (preferences (locale_of_small h.small))
    from None q e = absurd (cc)
    from (Some part) q e =
        let is : made_of h.small.id.language h.small.id.script part h.small.id.variant ≡ d = cc in
        sym is
        ∙ (λ i. made_of h.small.id.language h.small.id.script (sym (part_of_locale h.small part q) i)
        (sym (first-option h.small.id.variant) i))

-- an identifier's data locale stands for what its preferences do
pub key_of_identifier : (i : Identifier) → IfSome i.region (IsNormal Region) →
    data_key (data_of_identifier i) ≡ data_key (language_priority (identifier_preferences i))
key_of_identifier i h = λ k. record {
  language = i.language;
  script = i.script;
  region = part i.region h k;
  variant = first_item i.variants;
}
  where
    part : (r : Option Text) → IfSome r (IsNormal Region) →
        option_map whole_region r
        ≡ option_or
        (option_and_then named_subdivision (option_map subdivision_text (option_map whole_region r)))
        (option_map whole_region (option_map (λ p. p.region) (option_map whole_region r)))
    part None h = refl
    part (Some r) h = rw (subdivision_back (whole_region r) (whole_region_is r h)) refl
