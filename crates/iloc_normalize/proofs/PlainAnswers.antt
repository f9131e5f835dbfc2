-- The normal text of a plain text.
use Rattle.std.proofs.Common.{suc, ◌≡◌, ◌≢◌, ◌≤◌, List, [], ◌∷◌, ◌++◌, length, map, Option, Some, None, IfSome, option_map, refl, sym, ap, ◌∙◌, arith, append-nil}
use Rattle.std.specs.Prelude.{option_to_list}
use Rattle.iloc_spec_grammar.specs.Syntax.{Text, pieces, lower, join, Region, languages, Identifier, identifier_pieces}
use Rattle.iloc_spec_grammar.specs.Meaning.{IdentifierMeans, Means, without_extensions, no_extensions, set_of}
use Rattle.iloc_spec_grammar.specs.Reading.{first_item}
use Rattle.iloc_spec_grammar.specs.Values.{IsNormal, identifier_text, text, extensions_spelling}
use Rattle.iloc_spec_grammar.proofs.IdentifierTexts.{identifier_means_value}
use Rattle.iloc_spec_grammar.proofs.RawLaws.{languages_table}
use Rattle.iloc_spec_grammar.proofs.SameMeaning.{means_by_tree}
use Rattle.iloc_spec_grammar.proofs.SetLaws.{length-set_of-different}
use Rattle.iloc_spec_parts.specs.Small.{SmallLocale}
use Rattle.iloc_spec_parts.proofs.SmallTrees.{tree_is_small}
use Rattle.iloc_spec_parts.specs.DataLocales.{DataLocale, DataMeans, data_text, made_of, whole_region, subdivision_keyword, subdivision_pieces}
use Rattle.iloc_spec_parts.specs.Subdivisions.{Subdivision}
use Rattle.iloc_spec_parts.proofs.DataLaws.{whole_region_is}
use Rattle.iloc_spec_parts.proofs.SubdivisionLaws.{subdivision_back}
use Rattle.iloc_pieces.specs.Plain.{IsPlain, value_of}
use Rattle.iloc_pieces.specs.PlainShape.{plain_identifier}
use Rattle.iloc_pieces.specs.declared.plain.Plain.{Plain}
use Rattle.iloc_normalize.specs.Modes.{IsNormalText}
use Rattle.iloc_normalize.specs.declared.Mode.{Mode}
use Rattle.iloc_normalize.specs.declared.Mode.TheVariants.{Langid, Locale, Data}

-- an identifier alone is a locale without extensions
pub means_alone : (t : Text) (i : Identifier) → IdentifierMeans languages (pieces t) i →
    Means languages t (without_extensions i)
means_alone t i m = means_by_tree languages_table t (without_extensions i) (record {
  written = record { id = m.written; extensions = []; private = None };
  grammatical = record { id = m.grammatical; extensions = tt; different = tt; private = tt };
  spelled = m.spelled ∙ sym (append-nil (identifier_pieces m.written));
  means = λ j. record { id = m.means j; extensions = no_extensions };
})

pub text_alone : (i : Identifier) → text (without_extensions i) ≡ identifier_text i
unfolding identifier_text extensions_spelling
text_alone i = ap join (append-nil (identifier_pieces i))

-- in another mode than that of data locales it means the identifier alone
alone_normal : (t : Text) (i : Identifier) → IdentifierMeans languages (pieces t) i → (mode : Mode) →
    mode ≢ Data → IsNormalText languages mode t (identifier_text i)
alone_normal t i m Langid other = (i, m, refl)
alone_normal t i m Locale other = (without_extensions i, means_alone t i m, sym (text_alone i))
alone_normal t i m Data other = absurd (other refl)

-- a whole region is printed as the region
no_keyword : (r : Option Text) → IfSome r (IsNormal Region) →
    subdivision_keyword (made_of [] None (option_map whole_region r) None) ≡ None
no_keyword None h = refl
no_keyword (Some r) h = search (subdivision_back, whole_region_is)

same_region : (r : Option Text) →
    option_map (λ (p : Subdivision). p.region) (option_map whole_region r) ≡ r
same_region None = refl
same_region (Some r) = refl

one_set : (ws : List Text) → length ws ≤ 1 → set_of (map lower ws) ≡ map lower ws
one_set [] l = refl
one_set (w ∷ []) l = refl
one_set (w ∷ v ∷ ws) l = absurd (omega arith)

pub one_item : (ws : List Text) → length ws ≤ 1 → option_to_list (first_item ws) ≡ ws
one_item [] l = refl
one_item (w ∷ []) l = refl
one_item (w ∷ v ∷ ws) l = absurd (omega arith)

length_lower : (ws : List Text) → length (map lower ws) ≡ length ws
length_lower [] = refl
length_lower (w ∷ ws) = ap suc (length_lower ws)

-- an identifier with at most one variant
module _ (t : Text) (i : Identifier) (m : IdentifierMeans languages (pieces t) i)
    (f : length i.variants ≤ 1) where
  abbrev pub variants : List Text
  variants = m.written.variants

  pub few : length variants ≤ 1
  few =
      omega (
        arith,
        f,
        ap length (ap (λ (x : Identifier). x.variants) m.means),
        length-set_of-different (map lower variants) m.grammatical.different,
        length_lower variants,
      )

  pub variants_are : i.variants ≡ map lower variants
  variants_are = ap (λ (x : Identifier). x.variants) m.means ∙ one_set variants few

  -- the data locale of its words
  abbrev pub data_of : DataLocale
  data_of = made_of i.language i.script (option_map whole_region i.region) (first_item i.variants)

  abbrev small : SmallLocale
  small = record {
    id = record {
      language = i.language;
      script = i.script;
      region = i.region;
      variant = first_item i.variants;
    };
    keyword = None;
  }

  data_means : DataMeans languages t data_of
  data_means = record {
    small = small;
    is_small = grind (arith, tree_is_small, append-nil, few, variants_are);
    means = refl;
  }

  pub data_text_is : data_text data_of ≡ identifier_text i
  unfolding identifier_text
  data_text_is =
      λ j. join (i.language ∷ (option_to_list i.script ++ (option_to_list (same_region i.region j)
      ++ (ap (λ l. option_to_list (first_item i.variants) ++ l) (ap subdivision_pieces none)
      ∙ append-nil (option_to_list (first_item i.variants)) ∙ one_item i.variants f) j)))
    where
      none : subdivision_keyword data_of ≡ None
      none = no_keyword i.region (identifier_means_value (pieces t) i m).region

  -- in each mode it means the identifier alone
  pub few_normal : (mode : Mode) → IsNormalText languages mode t (identifier_text i)
  few_normal Langid = alone_normal t i m Langid (λ e. cc)
  few_normal Locale = alone_normal t i m Locale (λ e. cc)
  few_normal Data = (data_of, data_means, sym data_text_is)

pub plain_normal : (mode : Mode) (t : Text) (p : Plain) → IsPlain t p →
    IsNormalText languages mode t (identifier_text (value_of p))
unfolding plain_identifier
plain_normal mode t p h = few_normal t (value_of p) h.means (omega arith) mode
