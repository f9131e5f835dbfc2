-- What follows the singleton `u` of a data locale.
use Rattle.std.specs.Prelude.{◌≡◌, ◌⊎◌, ℕ, zero, suc, ◌+◌, ◌-◌, ◌≤◌, ◌&&◌, Bool, true, false, List, [], ◌∷◌}
use Rattle.std.specs.Prelude.{length, nat_le, take, drop, codes, Some, None, Result, Ok, Err}
use Rattle.std.specs.List.{list_all}
use Rattle.iloc_spec_grammar.specs.Syntax.{Text, Attribute, Region, SubdivisionSuffix, is_word, IsWord}
use Rattle.iloc_spec_grammar.specs.Syntax.{is_same, is_true, lower, upper, blocks}
use Rattle.iloc_spec_grammar.specs.Meaning.{Fault, InvalidSubtag, InvalidExtension, normal_values}
use Rattle.iloc_spec_grammar.specs.Reading.{rest_of}
use Rattle.iloc_spec_parts.specs.Small.{SmallIdentifier}
use Rattle.iloc_spec_parts.specs.SmallComputing.{blocks_result, is_u}
use Rattle.iloc_spec_parts.specs.DataComputing.{data_of_result}
use Rattle.iloc_spec_parts.specs.DataLocales.{DataLocale, agreed, made_of, named_subdivision}
use Rattle.iloc_spec_parts.specs.Subdivisions.{Subdivision, region_length, subdivision}
use Rattle.iloc_pieces.specs.Cursor.{piece_left, pieces_left}
use Rattle.iloc_pieces.specs.declared.place.Cursor.{Cursor}
use Rattle.iloc_normalize.specs.declared.subdivisions.Keyword.{Keyword}
use Rattle.iloc_normalize.specs.declared.subdivisions.Keyword.TheVariants as keywords
use Rattle.iloc_normalize.specs.declared.subdivisions.Subtags.{Subtags}
use Rattle.iloc_normalize.specs.declared.subdivisions.Subtags.TheVariants as subtags
use Rattle.iloc_normalize.specs.declared.subdivisions.SubdivisionValue.{SubdivisionValue}

-- n bytes from a place on
abbrev pub bytes_at : Text → ℕ → ℕ → Text
bytes_at w at n = take n (drop at w)

-- whether all pieces are `true`
abbrev pub are_trues : List Text → Bool
are_trues ps = list_all (λ p. is_word Attribute p && is_true (lower p)) ps

-- whether all pieces are of a value, and at most one is not `true`
abbrev pub has_small_value : List Text → Bool
has_small_value ps = list_all (is_word Attribute) ps && nat_le (length (normal_values ps)) 1

-- the piece m follows l, and is the only one that is not `true`
pub record IsOnly (l m : Cursor) : Type 0 where
  pub window : m.window.now ≡ l.window.now
  pub behind : l.at + length (piece_left l) + 1 ≤ m.at
  pub end : m.at + m.remaining ≡ l.at + l.remaining
  pub word : IsWord Attribute (piece_left m)
  pub other : is_true (lower (piece_left m)) ≡ false
  pub small : has_small_value (rest_of (pieces_left l)) ≡ true
  pub value : normal_values (rest_of (pieces_left l)) ≡ lower (piece_left m) ∷ []

-- what the pieces behind the key are
abbrev pub AreSubtagsRead : Cursor → Subtags → Type 0
AreSubtagsRead l subtags.Misfit = has_small_value (rest_of (pieces_left l)) ≡ false
AreSubtagsRead l subtags.Trues = (has_small_value (rest_of (pieces_left l)) ≡ true)
    × (normal_values (rest_of (pieces_left l)) ≡ [])
AreSubtagsRead l (subtags.One m) = IsOnly l m

-- so many bytes of the word are the region of a subdivision; 0 if it is none
abbrev pub EndsRegion : Text → ℕ → Type 0
EndsRegion p zero = (is_word Region (take (region_length (lower p)) p)
    && is_word SubdivisionSuffix (drop (region_length (lower p)) p)) ≡ false
EndsRegion p (suc k) = (region_length (lower p) ≡ suc k) × IsWord Region (take (suc k) p)
    × IsWord SubdivisionSuffix (drop (suc k) p)

-- the value is this subdivision
pub record IsNamed (w : Text) (v : SubdivisionValue) (s : Subdivision) : Type 0 where
  pub few : v.region ≤ v.len
  pub most : v.region ≤ 3
  pub some : 2 ≤ v.region
  pub other : is_true (lower (bytes_at w v.at v.len)) ≡ false
  pub names : subdivision (lower (bytes_at w v.at v.len)) ≡ Ok s
  pub region : s.region ≡ upper (bytes_at w v.at v.region)
  pub suffix : s.suffix ≡ lower (bytes_at w (v.at + v.region) (v.len - v.region))

-- what the word names as the value of the key
abbrev pub IsNamedBy : Cursor → Cursor → Keyword → Type 0
IsNamedBy key m keywords.Misfit = ⊥
IsNamedBy key m keywords.Unnamed = (is_same (lower (piece_left key)) (codes "sd") ≡ false)
    ⊎ (named_subdivision (lower (piece_left m)) ≡ None)
IsNamedBy key m (keywords.Named v) = (is_same (lower (piece_left key)) (codes "sd") ≡ true)
    × (v.at ≡ m.at) × (v.len ≡ length (piece_left m))
    × ((s : Subdivision) × IsNamed m.window.now v s)

-- what a head and the blocks behind it mean as a data locale
abbrev pub data_behind : SmallIdentifier → List Text → Result DataLocale Fault
data_behind r ps = data_of_result (blocks_result r (blocks ps))

-- the data locale of a head and a subdivision
abbrev pub data_with : SmallIdentifier → Subdivision → DataLocale
data_with r s = made_of r.language r.script (Some (agreed r.region s)) r.variant

-- the value is this subdivision, and stands n bytes behind the beginning of the piece at least
pub record NamesPast (l : Cursor) (n : ℕ) (v : SubdivisionValue) (s : Subdivision) : Type 0 where
  pub named : IsNamed l.window.now v s
  pub behind : l.at + n ≤ v.at
  pub inside : v.at + v.len ≤ l.at + l.remaining

-- what a head means, and behind it a singleton `u` and these pieces
abbrev pub MeansWithU : List Text → (SmallIdentifier → Result DataLocale Fault) → Type 0
MeansWithU ps meant = (c : ℕ) → is_u c ≡ true → (r : SmallIdentifier)
    → data_behind r ((c ∷ []) ∷ ps) ≡ meant r

-- what the pieces behind the singleton are
abbrev pub IsKeywordRead : Cursor → Keyword → Type 0
IsKeywordRead l keywords.Misfit = MeansWithU (pieces_left l) (λ r. Err InvalidSubtag)
IsKeywordRead l keywords.Unnamed = MeansWithU (pieces_left l) (λ r. Err InvalidExtension)
IsKeywordRead l (keywords.Named v) = (s : Subdivision) × NamesPast l 3 v s
    × MeansWithU (pieces_left l) (λ r. Ok (data_with r s))
