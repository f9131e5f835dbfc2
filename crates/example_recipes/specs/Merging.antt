-- What two preferences say together, as a table: a row for each part, by what the second says of it.
use Rattle.std.specs.Prelude.{◌≡◌, true, false, Option, Some, None}
use Rattle.icu_locale_core.specs.Syntax.{is_same}
use Rattle.icu_locale_core.specs.Subdivisions.{Subdivision}
use Rattle.icu_locale_core.specs.DataLocales.{is_whole}
use Rattle.icu_locale_core.specs.Preferences.{Preferences, und}

-- What the second says, and else what the first says.
abbrev pub SecondOrFirst : {X : Type 0} → Option X → Option X → Option X → Type 0
SecondOrFirst a None both = both ≡ a
SecondOrFirst a (Some x) both = both ≡ Some x

-- A region that is there already, and that the second names as a whole, keeps its subdivision.
pub record RegionOfBoth (r s : Subdivision) (both : Option Subdivision) : Type 0 where
  pub part : is_whole s ≡ false → both ≡ Some s
  pub another : is_same r.region s.region ≡ false → both ≡ Some s
  pub whole : is_whole s ≡ true → is_same r.region s.region ≡ true → both ≡ Some r

-- What the second says of the region, and else what the first says.
abbrev pub SecondOrFirstRegion : Option Subdivision → Option Subdivision → Option Subdivision → Type 0
SecondOrFirstRegion None b both = both ≡ b
SecondOrFirstRegion (Some r) None both = both ≡ Some r
SecondOrFirstRegion (Some r) (Some s) both = RegionOfBoth r s both

-- What both say, part by part; a language `und` says nothing.
pub record IsMerged (a b both : Preferences) : Type 0 where
  pub language : is_same b.language und ≡ false → both.language ≡ b.language
  pub unknown : is_same b.language und ≡ true → both.language ≡ a.language
  pub script : SecondOrFirst a.script b.script both.script
  pub variant : SecondOrFirst a.variant b.variant both.variant
  pub region : SecondOrFirstRegion a.region b.region both.region
  pub region_override : SecondOrFirst a.region_override b.region_override both.region_override
