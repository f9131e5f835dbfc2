-- What is usually meant by a refused text: what it shows that UTS #35 has not, and what it then is
-- rewritten as. This library's rule.
use Rattle.std.specs.Prelude.{◌≡◌, ℕ, ◌≤◌, Bool, ◌||◌, ◌==◌, length, codes, ⊤, Option, Some, None}
use Rattle.std.specs.Prelude.{nat_eq, nat_lt, if◌then◌else◌}
use Rattle.std.specs.List.{list_any, before_first, starts_with}
use Rattle.std.specs.Str.{bytes_eq}
use Rattle.iloc_spec_grammar.specs.Syntax.{Text}
use Rattle.iloc_cleaning.specs.Cleaning.{byte_order_mark, is_blank, ends_base, hyphens}
use Rattle.iloc_normalize.specs.declared.Mode.{Mode}
use Rattle.iloc_faults.specs.Places.{IsAccepted}
use Rattle.iloc_hints.specs.declared.hints.Hint.{Hint}
use Rattle.iloc_hints.specs.declared.hints.Hint.TheVariants.{Mark, Blanks, System, Codeset, Underscores}

-- a space, a tab, a CR or a newline
abbrev pub is_space : ℕ → Bool
is_space b = is_blank b || (b == 13 || b == 10)

-- an underscore, which some systems write where UTS #35 has a hyphen
abbrev pub is_underscore : ℕ → Bool
is_underscore b = b == 95

-- a name that has no language: of POSIX, or of the root of a tree of locales
abbrev pub is_system : Text → Bool
is_system name = bytes_eq name (codes "C")
    || (bytes_eq name (codes "POSIX") || bytes_eq name (codes "root"))

-- the name of a locale, without its codeset and modifier
abbrev pub base : Text → Text
base t = before_first ends_base t

-- what the text shows first, if it shows something
abbrev pub sign : Text → Option Hint
sign t = if starts_with nat_eq t byte_order_mark then Some Mark else
    if list_any is_space t then Some Blanks else
    if is_system (base t) then Some System else
    if list_any ends_base t then Some Codeset else
    if list_any is_underscore t then Some Underscores else None

-- without codeset and modifier, and with hyphens for its underscores, it is accepted; at most 64
-- bytes are tried
pub record IsAcceptedRewritten (mode : Mode) (t : Text) : Type 0 where
  pub short : length (base t) ≤ 64
  pub accepted : IsAccepted mode (hyphens (base t))

-- a text of this sign needs this
abbrev pub Needs : Mode → Text → Hint → Type 0
Needs mode t Codeset = IsAcceptedRewritten mode t
Needs mode t Underscores = IsAcceptedRewritten mode t
Needs mode t _ = ⊤

-- the text has the hint: it is refused, shows that sign first, and has what the hint needs
pub record HasHint (mode : Mode) (t : Text) (hint : Hint) : Type 0 where
  pub refused : ¬ (IsAccepted mode t)
  pub sign : sign t ≡ Some hint
  pub needs : Needs mode t hint

-- the words of a hint
abbrev pub hint_words : Hint → Text
hint_words Mark = codes "leave out the byte order mark"
hint_words Blanks = codes "leave out the blanks"
hint_words System = codes "use und, since this name has no language"
hint_words Codeset =
    codes "leave out the codeset and the modifier, and use hyphens in place of underscores"
hint_words Underscores = codes "use hyphens in place of underscores"
