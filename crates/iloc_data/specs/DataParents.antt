-- The fallback chain of data locales: from one to its parent, which lacks its last part, and so on
-- to `und`. This library's rule, of what a data locale stands for and in the order in which it is
-- printed: the subdivision goes first, and then as of an identifier.
use Rattle.std.specs.Prelude.{◌≡◌, ◌⊎◌, ℕ, ◌+◌, ◌<◌, List, [], ◌∷◌, ◌++◌, length, Option, Some, None}
use Rattle.std.specs.Prelude.{option_map, option_to_list, if◌then◌else◌}
use Rattle.std.specs.Option.{option_or}
use Rattle.iloc_spec_grammar.specs.Syntax.{Text}
use Rattle.iloc_spec_parts.specs.DataLocales.{DataLocale, data_key, data_pieces, region_part}
use Rattle.iloc_spec_parts.specs.DataLocales.{subdivision_keyword}
use Rattle.iloc_langid.specs.Parents.{is_unknown_language, after_steps}
use Rattle.iloc_data.specs.DataValue.{unknown_data}

-- The region that it stands for, or stands for a part of.
abbrev pub region_of : DataLocale → Option Text
region_of d = option_map (λ s. s.region) (region_part d)

-- The data locale with that region as a whole.
abbrev pub with_whole_region : DataLocale → DataLocale
with_whole_region d = record d { region = region_of d; subdivision = None }

-- The data locale without its subdivision, if one is printed; else without the variant; else
-- without the
-- region; else without the script; else `und`, which has no parent.
abbrev pub data_parent : DataLocale → Option DataLocale
data_parent d = option_or (option_map (λ _. with_whole_region d) (subdivision_keyword d))
    (option_or (option_map (λ _. record (with_whole_region d) { variant = None }) d.variant)
    (option_or (option_map (λ _. record (with_whole_region d) { region = None }) (region_of d))
    (option_or (option_map (λ _. record (with_whole_region d) { script = None }) d.script)
    (if is_unknown_language d.language then None else Some unknown_data))))

-- How many parts it has; `und` is none.
abbrev pub data_part_count : DataLocale → ℕ
data_part_count d = length (option_to_list (subdivision_keyword d))
    + length (option_to_list d.variant) + length (option_to_list (region_of d))
    + length (option_to_list d.script) + (if is_unknown_language d.language then 0 else 1)

-- After n steps it is `und`.
abbrev pub IsUnknownAfter : ℕ → DataLocale → Type 0
IsUnknownAfter n d = (e : DataLocale) × (after_steps data_parent n d ≡ Some e)
    × (data_key e ≡ data_key unknown_data)

-- p is printed as d without its last pieces; or d is printed as a language alone, and p is `und`.
abbrev pub LacksLastDataPart : DataLocale → DataLocale → Type 0
LacksLastDataPart d p =
    ((ws : List Text) × (0 < length ws) × (data_pieces d ≡ data_pieces p ++ ws))
    ⊎ ((data_pieces d ≡ d.language ∷ []) × (p ≡ unknown_data))
