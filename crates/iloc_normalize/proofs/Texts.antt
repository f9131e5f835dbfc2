-- The normal texts of data locales.
use Rattle.std.proofs.Common.{◌≡◌, ◌⊎◌, inl, inr, ◌≤◌, Bool, true, false, List, [], ◌∷◌, ◌++◌, length, map, codes, Option, Some, None, IfSome, Ok, option_map, refl, sym, ap, ◌∙◌, subst, arith, append_assoc, append-nil}
use Rattle.std.specs.Prelude.{if◌then◌else◌, option_to_list}
use Rattle.std.proofs.lemmas.Bool.{cases_Bool}
use Rattle.std.proofs.lemmas.List.{length-map}
use Rattle.iloc_spec_grammar.specs.Syntax.{Text, SpelledIdentifier, HasWords, Region, IsWord, dashes, is_same, is_true, join, languages, lower, upper}
use Rattle.iloc_spec_grammar.specs.Meaning.{normal_identifier}
use Rattle.iloc_spec_grammar.specs.Reading.{first_item}
use Rattle.iloc_spec_grammar.specs.Values.{IsNormal}
use Rattle.iloc_spec_grammar.proofs.MapLaws.{same_is}
use Rattle.iloc_spec_grammar.proofs.PartTexts.{join-append}
use Rattle.iloc_spec_grammar.proofs.WordsLaws.{is_word-normal, lower-lower, normal-normal}
use Rattle.iloc_spec_parts.specs.SmallComputing.{small_identifier}
use Rattle.iloc_spec_parts.specs.Small.{SmallIdentifier}
use Rattle.iloc_spec_parts.specs.DataLocales.{agreed, data_text, is_whole, made_of, subdivision_keyword, subdivision_pieces, whole_region}
use Rattle.iloc_spec_parts.specs.Subdivisions.{IsSubdivision, Subdivision, subdivision, subdivision_text}
use Rattle.iloc_spec_parts.proofs.DataLaws.{whole_region_is}
use Rattle.iloc_spec_parts.proofs.SubdivisionLaws.{read_is_subdivision, subdivision_back, text_of_read}
use Rattle.iloc_outline.specs.Parts.{front_pieces}
use Rattle.iloc_normalize.specs.Data.{data_alone}
use Rattle.iloc_normalize.specs.Subdivisions.{data_with}
use Rattle.iloc_normalize.proofs.PlainAnswers.{one_item}

-- a region is normal in upper case
normal_region : (r : Text) → IsWord Region r → IsNormal Region (upper r)
normal_region r h = (is_word-normal Region r ∙ h, normal-normal Region r)

-- ---- the keyword of a part

abbrev keyword_by : Text → Bool → Option Text
keyword_by w b = if b then None else Some w

keyword_of : (p : Subdivision) → IsSubdivision p → (l : Text) (s v : Option Text)
    → subdivision_keyword (made_of l s (Some p) v) ≡ keyword_by (subdivision_text p) (is_whole p)
keyword_of p h l s v = search subdivision_back

-- what is printed of a part that is not whole
keyword_pieces : (w : Text) → is_true (lower w) ≡ false
    → subdivision_pieces (Some w) ≡ codes "u" ∷ codes "sd" ∷ lower w ∷ []
keyword_pieces w e = ap (λ (b : Bool). codes "u" ∷ codes "sd" ∷ (if b then [] else lower w ∷ [])) e

keyword_dashes : (w : Text) → dashes (codes "u" ∷ codes "sd" ∷ w ∷ []) ≡ codes "-u-sd-" ++ w
keyword_dashes w = ap (λ t. codes "-u-sd-" ++ t) (append-nil w)

-- ---- texts

-- language, script and region, a variant, and the keyword
text_parts : (l : Text) (s r v : List Text) (ks : List Text)
    → join (l ∷ (s ++ (r ++ (v ++ ks)))) ≡ (join (l ∷ (s ++ r)) ++ dashes v) ++ dashes ks
text_parts l s r v ks =
    ap (λ ps. join (l ∷ ps)) (search append_assoc)
    ∙ join-append l ((s ++ r) ++ v) ks ∙ ap (λ t. t ++ dashes ks) (join-append l (s ++ r) v)

-- an identifier with one variant at most
module _ (i : SpelledIdentifier) (few : length i.variants ≤ 1) where
  abbrev r : SmallIdentifier
  r = small_identifier i

  abbrev front : Text
  front = join (front_pieces (normal_identifier i))

  abbrev variants : Text
  variants = dashes (map lower i.variants)

  only : option_to_list (first_item (map lower i.variants)) ≡ map lower i.variants
  only = one_item (map lower i.variants) (let n = length-map i.variants lower in omega arith)

  -- with this part of a region, and these pieces of a keyword
  abbrev printed : Option Text → List Text → Text
  printed region ks = join (r.language ∷ (option_to_list r.script ++ (option_to_list region ++
      (option_to_list r.variant ++ ks))))

  printed_is : (region : Option Text) (ks : List Text)
      → printed region ks ≡ (join (r.language ∷
      (option_to_list r.script ++ option_to_list region)) ++ variants) ++ dashes ks
  printed_is region ks = search (text_parts, only)

  -- without a keyword
  plain : printed r.region [] ≡ front ++ variants
  plain = printed_is r.region [] ∙ append-nil (front ++ variants)

  whole_keyword : (o : Option Text) → IfSome o (IsWord Region)
      → data_text (made_of r.language r.script (option_map whole_region
      (option_map upper o)) r.variant) ≡ printed (option_map upper o) []
  whole_keyword None h = refl
  whole_keyword (Some x) h = search (keyword_of, whole_region_is, normal_region)

  pub alone_text : HasWords languages i → data_text (data_alone i) ≡ front ++ variants
  alone_text words = whole_keyword i.region words.region ∙ plain

  -- with a subdivision that a value names
  module _ (b : Text) (s : Subdivision) (names : subdivision (lower b) ≡ Ok s) (other : is_true
      (lower b) ≡ false) where
    valid : IsSubdivision s
    valid = read_is_subdivision (lower b) s names

    text_is : subdivision_text s ≡ lower b
    text_is = text_of_read (lower b) s names ∙ lower-lower b

    part_pieces : is_whole s ≡ false
        → subdivision_pieces (subdivision_keyword (made_of r.language r.script (Some s) r.variant))
        ≡ codes "u" ∷ codes "sd" ∷ lower b ∷ []
    part_pieces e = grind (arith, keyword_of, valid, text_is, keyword_pieces, lower-lower)

    whole_pieces : is_whole s ≡ true
        → subdivision_pieces (subdivision_keyword (made_of r.language r.script (Some s) r.variant)) ≡ []
    whole_pieces e = ap subdivision_pieces (keyword_of s valid r.language r.script r.variant
        ∙ ap (keyword_by (subdivision_text s)) e)

    -- the region of the text is another, or the subdivision is all of it
    module _ (x : Text) (region : i.region ≡ Some x) (word : IsWord Region x) where
      abbrev given : Option Text
      given = r.region

      given_is : given ≡ Some (upper x)
      given_is = ap (option_map upper) region

      whole_agreed : (is_same (upper x) s.region ≡ false) ⊎ (is_whole s ≡ true)
          → agreed (Some (upper x)) s ≡ whole_region (upper x)
      whole_agreed (inl e) = ap (λ (b : Bool). if b then s else whole_region (upper x)) e
      whole_agreed (inr whole) = elim (cases_Bool (is_same (upper x) s.region)) [
        | inl same ↦
            ap (λ (b : Bool). if b then s else whole_region (upper x)) same
            ∙ (λ j. record {
              region = sym (same_is (upper x) s.region same) j;
              suffix =
                  same_is s.suffix (codes "zzzz") whole j;
            })
        | inr e ↦ ap (λ (b : Bool). if b then s else whole_region (upper x)) e
      ]

      pub dropped : (is_same (upper x) s.region ≡ false) ⊎ (is_whole s ≡ true)
          → data_text (data_with r s) ≡ front ++ variants
      dropped e =
          ap (λ (o : Option Text). data_text (made_of r.language r.script (Some
          (agreed o s)) r.variant)) given_is
          ∙ ap (λ p. data_text (made_of r.language r.script (Some p) r.variant)) (whole_agreed e)
          ∙ ap (λ (o : Option Text). data_text (made_of r.language r.script
          (option_map whole_region o) r.variant)) (sym given_is)
          ∙ whole_keyword i.region (subst (λ (o : Option Text). IfSome o (IsWord Region))
          (sym region) word) ∙ plain

      pub kept : is_same (upper x) s.region ≡ true → is_whole s ≡ false
          → data_text (data_with r s) ≡ (front ++ variants) ++ (codes "-u-sd-" ++ lower b)
      kept same e =
          ap (λ (o : Option Text). data_text (made_of r.language r.script (Some
          (agreed o s)) r.variant)) given_is
          ∙ ap (λ (b : Bool). data_text (made_of r.language r.script (Some (if b then s else whole_region
          (upper x))) r.variant)) same
          ∙ ap (printed (Some s.region)) (part_pieces e)
          ∙ ap (λ (o : Option Text). printed o (codes "u" ∷ codes "sd" ∷ lower b ∷ []))
          (ap (λ (t : Text). Some t) (sym (same_is (upper x) s.region same)) ∙ sym given_is)
          ∙ printed_is r.region (codes "u" ∷ codes "sd" ∷ lower b ∷ [])
          ∙ ap (λ t. (front ++ variants) ++ t) (keyword_dashes (lower b))

    -- the text has no region
    module _ (none : i.region ≡ None) where
      given_none : r.region ≡ None
      given_none = ap (option_map upper) none

      -- the front with the region of the subdivision
      with_region : join (r.language ∷ (option_to_list r.script ++ s.region ∷ [])) ≡ front ++ 45 ∷ s.region
      with_region = grind (arith, join-append, append-nil, given_none)

      pub inserted : is_whole s ≡ true → data_text (data_with r s) ≡ (front ++ 45 ∷ s.region) ++ variants
      inserted e =
          ap (λ (o : Option Text). data_text (made_of r.language r.script (Some
          (agreed o s)) r.variant)) given_none
          ∙ ap (printed (Some s.region)) (whole_pieces e) ∙ printed_is (Some s.region) []
          ∙ append-nil (join (r.language ∷ (option_to_list r.script ++ s.region ∷ [])) ++ variants)
          ∙ ap (λ t. t ++ variants) with_region

      pub inserted_kept : is_whole s ≡ false
          → data_text (data_with r s) ≡ ((front ++ 45 ∷ s.region) ++ variants) ++ (codes "-u-sd-" ++ lower b)
      inserted_kept e =
          ap (λ (o : Option Text). data_text (made_of r.language r.script (Some
          (agreed o s)) r.variant)) given_none
          ∙ ap (printed (Some s.region)) (part_pieces e)
          ∙ printed_is (Some s.region) (codes "u" ∷ codes "sd" ∷ lower b ∷ [])
          ∙ (λ j. (with_region j ++ variants) ++ keyword_dashes (lower b) j)
