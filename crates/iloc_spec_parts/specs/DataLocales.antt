-- Data locales, by which data is looked up: language, script, variant, and a region or a
-- subdivision of it. A text means one if it is small and its keyword, if it has one, is `sd`,
-- the regional subdivision of UTS #35 (`-u-sd-`). What a data locale stands for, and how it is
-- printed, is this project's rule, as in the Rust crate.
use Rattle.std.specs.Prelude.{◌≡◌, Bool, IfSome, List, [], ◌∷◌, ◌++◌, Option, Some, None, option_map}
use Rattle.std.specs.Prelude.{option_and_then, option_to_list, codes, if◌then◌else◌}
use Rattle.std.specs.Option.{option_or}
use Rattle.std.specs.Result.{result_ok}
use Rattle.iloc_spec_grammar.specs.Syntax.{Text, LanguageLengths, join, Language, Script, Region, Variant}
use Rattle.iloc_spec_grammar.specs.Syntax.{Subtag, lower, is_same, is_true, Identifier, Fields}
use Rattle.iloc_spec_grammar.specs.Meaning.{Locale, just_unicode, Fault, InvalidExtension}
use Rattle.iloc_spec_grammar.specs.Values.{IsNormal}
use Rattle.iloc_spec_parts.specs.Small.{SmallLocale, identifier_of_small, locale_of_small, IsSmall}
use Rattle.iloc_spec_parts.specs.Small.{HasSmallFault}
use Rattle.iloc_spec_grammar.specs.Reading.{first_item}
use Rattle.iloc_spec_parts.specs.Subdivisions.{Subdivision, subdivision, subdivision_text}

-- What is kept: the parts of a locale by which data is looked up.
pub record DataLocale : Type 0 where
  pub language : Text
  pub script : Option Text
  pub region : Option Text
  pub variant : Option Text
  pub subdivision : Option Text

-- What the type keeps of each.
pub record IsDataLocale (T : LanguageLengths) (d : DataLocale) : Type 0 where
  pub language : IsNormal (Language T) d.language
  pub script : IfSome d.script (IsNormal Script)
  pub region : IfSome d.region (IsNormal Region)
  pub variant : IfSome d.variant (IsNormal Variant)
  pub subdivision : IfSome d.subdivision (IsNormal Subtag)

-- What a data locale stands for; a region is a subdivision too, as a whole.
pub record DataKey : Type 0 where
  pub language : Text
  pub script : Option Text
  pub region : Option Subdivision
  pub variant : Option Text

-- The suffix that stands for a whole region.
abbrev pub whole : Text
whole = codes "zzzz"

-- The region as a whole.
abbrev pub whole_region : Text → Subdivision
whole_region r = record { region = r; suffix = whole }

-- Whether it is the whole of its region.
abbrev pub is_whole : Subdivision → Bool
is_whole s = is_same s.suffix whole

-- The subdivision that a word names, if it names one.
abbrev pub named_subdivision : Text → Option Subdivision
named_subdivision w = result_ok (subdivision w)

-- The subdivision if it is there and readable, else the region as a whole, else nothing.
abbrev pub region_part : DataLocale → Option Subdivision
region_part d = option_or (option_and_then named_subdivision d.subdivision)
    (option_map whole_region d.region)

-- What it stands for: data locales are equal if their keys are.
abbrev pub data_key : DataLocale → DataKey
data_key d =
    record { language = d.language; script = d.script; region = region_part d; variant = d.variant }

-- Reading.

-- The data locale made of a region part: its region, and its text as the subdivision.
abbrev pub made_of : Text → Option Text → Option Subdivision → Option Text → DataLocale
made_of l s part v = record {
  language = l;
  script = s;
  region = option_map (λ p. p.region) part;
  variant = v;
  subdivision = option_map subdivision_text part;
}

-- The given region as a whole if it differs from the subdivision's, else the subdivision.
abbrev pub agreed : Option Text → Subdivision → Subdivision
agreed None s = s
agreed (Some r) s = if is_same r s.region then s else whole_region r

-- The region part that a region and a keyword name, if the keyword is `sd` with a readable
-- subdivision, or there is none.
abbrev pub small_part : Option Text → Option (Text × Option Text) → Option (Option Subdivision)
small_part region None = Some (option_map whole_region region)
small_part region (Some (key, value)) = if is_same key (codes "sd")
    then option_map (λ s. Some (agreed region s)) (option_and_then named_subdivision value) else None

-- The data locale of a small locale, if its keyword has one.
abbrev pub data_of_small : SmallLocale → Option DataLocale
data_of_small r = option_map (λ part. made_of r.id.language r.id.script part r.id.variant)
    (small_part r.id.region r.keyword)

-- The text means the data locale.
pub record DataMeans (T : LanguageLengths) (t : Text) (d : DataLocale) : Type 0 where
  pub small : SmallLocale
  pub is_small : IsSmall T t small
  pub means : data_of_small small ≡ Some d

-- The text is no data locale, for this reason.
pub data HasDataFault (T : LanguageLengths) (t : Text) : Fault → Type 0 where
  not_small : {f : Fault} → HasSmallFault T t f → HasDataFault T t f
  no_subdivision : {r : SmallLocale} → IsSmall T t r → data_of_small r ≡ None
      → HasDataFault T t InvalidExtension

-- Printing: what is kept, and the subdivision after `u-sd` if it is readable and not a whole
-- region. One that spells `true` is left out, as the value of a keyword.

-- The value of `sd` for a subdivision's word.
abbrev pub subdivision_value : Text → List Text
subdivision_value w = if is_true (lower w) then [] else lower w ∷ []

-- The subdivision that is printed, if one is.
abbrev pub subdivision_keyword : DataLocale → Option Text
subdivision_keyword d = option_and_then
    (λ w. option_and_then (λ s. if is_whole s then None else Some w) (named_subdivision w))
    d.subdivision

-- The pieces of the keyword of a subdivision.
abbrev pub subdivision_pieces : Option Text → List Text
subdivision_pieces None = []
subdivision_pieces (Some w) = codes "u" ∷ codes "sd" ∷ subdivision_value w

-- The pieces of its text.
abbrev pub data_pieces : DataLocale → List Text
data_pieces d = d.language
    ∷ (option_to_list d.script
    ++ (option_to_list d.region
    ++ (option_to_list d.variant ++ subdivision_pieces (subdivision_keyword d))))

-- Its text.
abbrev pub data_text : DataLocale → Text
data_text d = join (data_pieces d)

-- The small locale of the same parts.
abbrev pub small_of_data : DataLocale → SmallLocale
small_of_data d = record {
  id = record { language = d.language; script = d.script; region = d.region; variant = d.variant };
  keyword = option_map (λ w. (codes "sd", first_item (subdivision_value w)))
      (subdivision_keyword d);
}

-- The locale that prints the same parts.
abbrev pub locale_of_data : DataLocale → Locale
locale_of_data d = locale_of_small (small_of_data d)

-- The locale of the identifier's parts and these keywords.
abbrev pub locale_with_keywords : DataLocale → Fields → Locale
locale_with_keywords d fields = record {
  id = identifier_of_small (small_of_data d).id;
  extensions = just_unicode (record { attributes = []; keywords = fields });
}

-- The data locale of an identifier.
abbrev pub data_of_identifier : Identifier → DataLocale
data_of_identifier i = record {
  language = i.language;
  script = i.script;
  region = i.region;
  variant = first_item i.variants;
  subdivision = None;
}

-- The data locale of a language, a script and a region.
abbrev pub data_of_parts : Text → Option Text → Option Text → DataLocale
data_of_parts l s r = made_of l s (option_map whole_region r) None
