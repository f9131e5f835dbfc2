-- What a text is read as, as a data locale.
use Rattle.std.specs.Prelude.{◌≡◌, ◌⊎◌, ℕ, ◌+◌, ◌-◌, ◌≤◌, ◌++◌, true, false, length, map, take, Option, Some}
use Rattle.std.specs.Prelude.{None, Ok, Err, option_map}
use Rattle.iloc_spec_grammar.specs.Syntax.{Text, SpelledIdentifier, HasWords, dashes, is_one_byte, join}
use Rattle.iloc_spec_grammar.specs.Syntax.{languages, lower}
use Rattle.iloc_spec_grammar.specs.Meaning.{Fault, InvalidSubtag, normal_identifier}
use Rattle.iloc_spec_parts.specs.Small.{SmallIdentifier}
use Rattle.iloc_spec_parts.specs.SmallComputing.{small_identifier}
use Rattle.iloc_spec_parts.specs.DataComputing.{data_result}
use Rattle.iloc_spec_parts.specs.DataLocales.{DataLocale, made_of, whole_region}
use Rattle.iloc_spec_parts.specs.Subdivisions.{Subdivision}
use Rattle.iloc_outline.specs.Identifier.{front_text}
use Rattle.iloc_outline.specs.Parts.{front_pieces}
use Rattle.iloc_pieces.specs.Cursor.{piece_left, pieces_left}
use Rattle.iloc_pieces.specs.declared.place.Cursor.{Cursor}
use Rattle.iloc_subtags.specs.Judging.{error_of}
use Rattle.iloc_normalize.specs.Subdivisions.{IsNamed, NamesPast, bytes_at, data_behind, data_with}
use Rattle.iloc_normalize.specs.Answered.{HasRefusal}
use Rattle.iloc_normalize.specs.declared.Mode.TheVariants as modes
use Rattle.iloc_normalize.specs.declared.data.Data.{Data}
use Rattle.iloc_normalize.specs.declared.data.Data.TheVariants as datas
use Rattle.iloc_normalize.specs.declared.data.DataHead.{DataHead}
use Rattle.iloc_normalize.specs.declared.subdivisions.SubdivisionValue.{SubdivisionValue}

-- the window begins with this identifier, which has one variant at most
pub record IsHead (w : Text) (h : DataHead) (i : SpelledIdentifier) : Type 0 where
  pub words : HasWords languages i
  pub few : length i.variants ≤ 1
  pub ascends : h.front.end ≤ h.end
  pub inside : h.end ≤ length w
  pub front : take h.front.end w ≡ join (front_pieces i)
  pub printed : front_text h.front.script h.front.region (take h.front.end w)
      ≡ join (front_pieces (normal_identifier i))
  pub whole : front_text h.front.script h.front.region (take h.end w)
      ≡ join (front_pieces (normal_identifier i)) ++ dashes (map lower i.variants)
  pub variant : lower (bytes_at w h.front.end (h.end - h.front.end))
      ≡ dashes (map lower i.variants)

-- the data locale of an identifier with one variant at most
abbrev pub data_alone : SpelledIdentifier → DataLocale
data_alone i = let r = small_identifier i in
    made_of r.language r.script (option_map whole_region r.region) r.variant

-- it is the head alone
pub record IsAlone (w : Text) (h : DataHead) (d : DataLocale) : Type 0 where
  pub written : SpelledIdentifier
  pub head : IsHead w h written
  pub is : d ≡ data_alone written

-- it is the head and the subdivision that the value names
pub record HasValue (w : Text) (len : ℕ) (h : DataHead) (v : SubdivisionValue) (d : DataLocale) : Type 0 where
  pub written : SpelledIdentifier
  pub head : IsHead w h written
  pub named : Subdivision
  pub names : IsNamed w v named
  pub behind : h.end + 6 ≤ v.at
  pub inside : v.at + v.len ≤ len
  pub is : d ≡ data_with (small_identifier written) named

-- what the first bytes are
abbrev pub IsDataRead : Text → ℕ → Data → Type 0
IsDataRead w len (datas.Head h) = (d : DataLocale) × (data_result languages (take len w) ≡ Ok d)
    × IsAlone w h d × (h.end ≤ len)
IsDataRead w len (datas.Named h v) = (d : DataLocale)
    × (data_result languages (take len w) ≡ Ok d) × HasValue w len h v d
IsDataRead w len (datas.Refused e) = HasRefusal modes.Data (take len w) e

-- the region with which the front ends; nothing if it has none
abbrev pub IsRegionStart : Text → ℕ → Option Text → ℕ → Type 0
IsRegionStart w end None at = at ≡ end
IsRegionStart w end (Some r) at = (at + length r ≡ end) × (bytes_at w at (end - at) ≡ r)

-- what comes behind a head makes it this, where no variant but those of the head comes before
abbrev pub IsDataBehind : DataHead → Cursor → Data → Type 0
IsDataBehind h l (datas.Head j) = ⊥
IsDataBehind h l (datas.Named j v) = (j ≡ h) × (is_one_byte (piece_left l) ≡ true)
    × ((s : Subdivision) × NamesPast l 5 v s
    × ((r : SmallIdentifier) → data_behind r (pieces_left l) ≡ Ok (data_with r s)))
IsDataBehind h l (datas.Refused e) = (is_one_byte (piece_left l) ≡ false) × (e ≡ error_of InvalidSubtag)
    ⊎ (is_one_byte (piece_left l) ≡ true) × ((f : Fault) × (e ≡ error_of f)
    × ((r : SmallIdentifier) → data_behind r (pieces_left l) ≡ Err f))
