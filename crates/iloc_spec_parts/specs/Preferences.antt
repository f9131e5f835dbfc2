-- Preferences: what a locale says of language, script, region and variant, with the regional
-- subdivision (`-u-sd-`) and the region override (`-u-rg-`) of UTS #35. How they are read, merged
-- and turned into locales is this project's rule, as in the Rust crate.
use Rattle.std.specs.Prelude.{◌≡◌, Bool, IfSome, true, false, not, ◌&&◌, ◌||◌, List, [], ◌∷◌, ◌++◌, Option}
use Rattle.std.specs.Prelude.{Some, None, option_map, option_and_then, is_some, is_none, codes, if◌then◌else◌}
use Rattle.std.specs.Option.{option_or}
use Rattle.std.specs.FinMap.{find}
use Rattle.iloc_spec_grammar.specs.Syntax.{Text, LanguageLengths, Language, Script, Variant, word_cmp}
use Rattle.iloc_spec_grammar.specs.Syntax.{is_same, is_true, Identifier, Fields}
use Rattle.iloc_spec_grammar.specs.Meaning.{Locale, without_extensions}
use Rattle.iloc_spec_grammar.specs.Values.{IsNormal}
use Rattle.iloc_spec_grammar.specs.Reading.{first_item}
use Rattle.iloc_spec_parts.specs.Subdivisions.{Subdivision, IsSubdivision, subdivision_text}
use Rattle.iloc_spec_parts.specs.DataLocales.{DataLocale, made_of, whole_region, is_whole, agreed}
use Rattle.iloc_spec_parts.specs.DataLocales.{locale_with_keywords}
use Rattle.iloc_spec_parts.specs.Keywords.{subdivision_reads, subdivision_gives}

-- What is kept: what a locale says of each part, with the region that overrides its own.
pub record Preferences : Type 0 where
  pub language : Text
  pub script : Option Text
  pub region : Option Subdivision
  pub variant : Option Text
  pub region_override : Option Subdivision

-- What the type keeps of each.
pub record IsPreferences (T : LanguageLengths) (p : Preferences) : Type 0 where
  pub language : IsNormal (Language T) p.language
  pub script : IfSome p.script (IsNormal Script)
  pub region : IfSome p.region IsSubdivision
  pub variant : IfSome p.variant (IsNormal Variant)
  pub region_override : IfSome p.region_override IsSubdivision

-- No subdivision spells `true`.
pub record SpellsNoTrue (p : Preferences) : Type 0 where
  pub region : IfSome p.region (λ s. is_true (subdivision_text s) ≡ false)
  pub region_override : IfSome p.region_override (λ s. is_true (subdivision_text s) ≡ false)

-- The language that is unknown.
abbrev pub und : Text
und = codes "und"

-- `und`, and nothing else.
abbrev pub default_preferences : Preferences
default_preferences =
    record { language = und; script = None; region = None; variant = None; region_override = None }

-- Reading.

-- What a keyword reads as, if it is there and readable.
abbrev pub read_keyword : {X : Type 0} → (List Text → Option X) → Text → Locale → Option X
read_keyword reads k M = option_and_then reads (find word_cmp k M.extensions.unicode.keywords)

-- The keyword is absent or readable.
abbrev pub is_readable : {X : Type 0} → (List Text → Option X) → Text → Locale → Bool
is_readable reads k M = is_none (find word_cmp k M.extensions.unicode.keywords)
    || is_some (read_keyword reads k M)

-- The subdivision if it is in the region or no region is given, else the region as a whole.
abbrev pub preferred_region : Option Text → Option Subdivision → Option Subdivision
preferred_region region None = option_map whole_region region
preferred_region region (Some s) = Some (agreed region s)

-- The preferences of a locale.
abbrev pub preferences : Locale → Preferences
preferences M = record {
  language = M.id.language;
  script = M.id.script;
  region = preferred_region M.id.region (read_keyword subdivision_reads (codes "sd") M);
  variant = first_item M.id.variants;
  region_override = read_keyword subdivision_reads (codes "rg") M;
}

-- The subdivision is of the region, if both are there.
abbrev pub same_region : Option Text → Option Subdivision → Bool
same_region (Some r) (Some s) = is_same r s.region
same_region _ _ = true

-- `sd` and `rg` are absent or readable, and `sd` is of the identifier's region, if both are there.
abbrev pub is_strict : Locale → Bool
is_strict M = is_readable subdivision_reads (codes "sd") M
    && (is_readable subdivision_reads (codes "rg") M
    && same_region M.id.region (read_keyword subdivision_reads (codes "sd") M))

-- The preferences of an identifier: those of the locale without extensions.
abbrev pub identifier_preferences : Identifier → Preferences
identifier_preferences i = preferences (without_extensions i)

-- The data locale that is made of the region.
abbrev pub language_priority : Preferences → DataLocale
language_priority p = made_of p.language p.script p.region p.variant

-- The data locale that is made of the override, or of the region if there is none.
abbrev pub region_priority : Preferences → DataLocale
region_priority p = made_of p.language p.script (option_or p.region_override p.region) p.variant

-- Merging: what the second knows wins.

-- A language `und` is unknown.
abbrev pub merge_language : Text → Text → Text
merge_language a b = if is_same b und then a else b

-- A whole region wins only over none or another region.
abbrev pub wins : Subdivision → Option Subdivision → Bool
wins s None = true
wins s (Some r) = not (is_whole s) || not (is_same r.region s.region)

-- The second region if it is there and wins, else the first.
abbrev pub merge_region : Option Subdivision → Option Subdivision → Option Subdivision
merge_region a None = a
merge_region a (Some s) = if wins s a then Some s else a

-- Preferences extended by others.
abbrev pub merge : Preferences → Preferences → Preferences
merge a b = record {
  language = merge_language a.language b.language;
  script = option_or b.script a.script;
  region = merge_region a.region b.region;
  variant = option_or b.variant a.variant;
  region_override = option_or b.region_override a.region_override;
}

-- The keyword `sd`, if the region is there and not whole.
abbrev pub sd_entry : Option Subdivision → Fields
sd_entry None = []
sd_entry (Some s) = if is_whole s then [] else (codes "sd", subdivision_gives s) ∷ []

-- The keyword `rg`, if there is an override.
abbrev pub rg_entry : Option Subdivision → Fields
rg_entry None = []
rg_entry (Some s) = (codes "rg", subdivision_gives s) ∷ []

-- The locale that preferences are turned into.
abbrev pub locale_of_preferences : Preferences → Locale
locale_of_preferences p = locale_with_keywords (language_priority p)
    (rg_entry p.region_override ++ sd_entry p.region)
