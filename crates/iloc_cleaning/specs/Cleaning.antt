-- What cleaning makes of a line: the name of a locale as files and systems write it, in the form of
-- UTS #35. This library's rule.
use Rattle.std.specs.Prelude.{◌≡◌, ℕ, ◌-◌, ◌==◌, Bool, false, ◌||◌, [], ◌∷◌, ◌++◌, length, take, drop, map}
use Rattle.std.specs.Prelude.{codes}
use Rattle.std.specs.Prelude.{nat_eq, if◌then◌else◌}
use Rattle.std.specs.List.{AllByRecursion, starts_with, ends_with, before_first, position_or_len}
use Rattle.std.specs.List.{prefix_len, suffix_len}
use Rattle.std.specs.Str.{bytes_eq}
use Rattle.iloc_spec_grammar.specs.Syntax.{Text}
use Rattle.iloc_cleaning.specs.declared.modifier.Modifier.{Modifier}
use Rattle.iloc_cleaning.specs.declared.modifier.Modifier.TheVariants.{Currency, Script, Variant, Other}

-- The byte order mark, in UTF-8.
abbrev pub byte_order_mark : Text
byte_order_mark = 0xEF ∷ 0xBB ∷ 0xBF ∷ []

-- An input without a byte order mark at its start.
abbrev pub without_mark : Text → Text
without_mark t = if starts_with nat_eq t byte_order_mark then drop 3 t else t

-- A line without one CR at its end.
abbrev pub without_return : Text → Text
without_return t = if ends_with nat_eq t (13 ∷ []) then take (length t - 1) t else t

-- A space or a tab.
abbrev pub is_blank : ℕ → Bool
is_blank b = b == 32 || b == 9

-- A text without blanks at its start.
abbrev pub without_first : Text → Text
without_first t = drop (prefix_len is_blank t) t

-- A text without blanks at its end.
abbrev pub without_last : Text → Text
without_last t = take (length t - suffix_len is_blank t) t

-- A text without blanks at both ends.
abbrev pub without_blanks : Text → Text
without_blanks t = without_last (without_first t)

-- What begins a modifier: `@`, as in `sr_RS.UTF-8@latin`.
abbrev pub is_at : ℕ → Bool
is_at b = b == 64

-- What ends the language and the territory: `.`, which begins a codeset, or `@`.
abbrev pub ends_base : ℕ → Bool
ends_base b = b == 46 || is_at b

-- What ends the language: `_` or a hyphen.
abbrev pub is_separator : ℕ → Bool
is_separator b = b == 95 || b == 45

-- A hyphen for each underscore.
abbrev pub hyphens : Text → Text
hyphens t = map (λ b. if b == 95 then 45 else b) t

-- What stands from the first byte on that passes, or nothing where none does.
abbrev pub from_first : (ℕ → Bool) → Text → Text
from_first p t = drop (position_or_len p t) t

-- What a modifier says, of those in the names of glibc's locales: `de_DE@euro`, `sr_RS@latin`,
-- `uz_UZ@cyrillic`, `sd_IN@devanagari`, `ca_ES@valencia`, `aa_ER@saaho`. The scripts are those of
-- ISO 15924; `valencia` is a variant of the IANA registry, and `saaho` one of CLDR.
abbrev pub modifier : Text → Modifier
modifier m = if bytes_eq m (codes "@euro") then Currency else
    if bytes_eq m (codes "@latin") then Script (codes "-Latn") else
    if bytes_eq m (codes "@cyrillic") then Script (codes "-Cyrl") else
    if bytes_eq m (codes "@devanagari") then Script (codes "-Deva") else
    if bytes_eq m (codes "@valencia") then Variant else
    if bytes_eq m (codes "@saaho") then Variant else Other

-- Language and territory with a modifier: a currency adds nothing; a script stands behind the
-- language, and a variant at the end; what is not known stays as it is.
abbrev pub with_modifier : Text → Text → Modifier → Text
with_modifier base m Currency = hyphens base
with_modifier base m (Script s) = hyphens (before_first is_separator base)
    ++ (s ++ hyphens (from_first is_separator base))
with_modifier base m Variant = hyphens base ++ 45 ∷ drop 1 m
with_modifier base m Other = hyphens base ++ m

-- The name of a locale, `language[_territory][.codeset][@modifier]` in POSIX, without its codeset.
abbrev pub clean_name : Text → Text
clean_name name = let m = from_first is_at name in
    with_modifier (before_first ends_base name) m (modifier m)

-- What is left of a line.
abbrev pub clean : Text → Text
clean line = clean_name (without_blanks (without_return line))

-- A clean line: no `_`, `.` or `@`, no blank at either end, and no CR at the end.
pub record IsClean (line : Text) : Type 0 where
  pub bytes : AllByRecursion (λ b. (b == 95 || ends_base b) ≡ false) line
  pub start : prefix_len is_blank line ≡ 0
  pub end : suffix_len is_blank line ≡ 0
  pub no_return : ends_with nat_eq line (13 ∷ []) ≡ false
