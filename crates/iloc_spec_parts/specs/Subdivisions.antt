-- Subdivisions: a region, and the suffix of a part of it, written as one word, as `gbeng` for
-- England or `ustx` for Texas. Restates unicode_subdivision_id of UTS #35: a region, and a suffix
-- of 1 to 4 letters or digits.
use Rattle.std.specs.Prelude.{ℕ, [], ◌∷◌, ◌++◌, take, drop, if◌then◌else◌, Option, Some, None, Result, Err}
use Rattle.std.specs.Prelude.{ok_or}
use Rattle.std.specs.Char.{is_ascii_alphabetic}
use Rattle.iloc_spec_grammar.specs.Syntax.{Text, Region, Subtag, SubdivisionSuffix, is_word, word, lower}
use Rattle.iloc_spec_grammar.specs.Values.{IsNormal}
use Rattle.iloc_spec_grammar.specs.Meaning.{Fault, InvalidSubtag, InvalidExtension}

-- A subdivision: `unicode_subdivision_id` of UTS #35, in its two parts.
pub record Subdivision : Type 0 where
  pub region : Text
  pub suffix : Text

-- How long the region is: it has two letters or three digits, which the first byte tells.
abbrev pub region_length : Text → ℕ
region_length [] = 3
region_length (c ∷ t) = if is_ascii_alphabetic c then 2 else 3

-- The subdivision of a region and a suffix, if both are there.
abbrev pub both_words : Option Text → Option Text → Option Subdivision
both_words (Some r) (Some s) = Some (record { region = r; suffix = s })
both_words _ _ = None

-- The subdivision that a text names, or why it names none: it is no subtag, or its parts are no
-- words.
abbrev pub subdivision : Text → Result Subdivision Fault
subdivision t = if is_word Subtag t
    then ok_or (both_words (word Region (take (region_length t) t))
    (word SubdivisionSuffix (drop (region_length t) t))) InvalidExtension
    else Err InvalidSubtag

-- Its text: region and suffix in lower case.
abbrev pub subdivision_text : Subdivision → Text
subdivision_text s = lower s.region ++ lower s.suffix

-- What the type keeps of each.
pub record IsSubdivision (s : Subdivision) : Type 0 where
  pub region : IsNormal Region s.region
  pub suffix : IsNormal SubdivisionSuffix s.suffix
