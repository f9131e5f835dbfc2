-- What follows the language of a plain identifier, and where its words stand.
use Rattle.std.specs.Prelude.{ℕ, zero, suc, ◌+◌, ◌-◌, ◌%◌, Bool, true, false, List, [], ◌∷◌, ◌++◌, length}
use Rattle.std.specs.Prelude.{replicate, take, drop, bit_and, Option, Some, None}
use Rattle.iloc_spec_grammar.specs.Syntax.{Text, Identifier}
use Rattle.iloc_pieces.specs.declared.tail.Place.{Place}

-- the length of a script and of the hyphen before it
abbrev pub script_len : Bool → ℕ
script_len true = 5
script_len false = 0

-- the length of a region of r bytes and of the hyphen before it; no region has 0
abbrev pub region_len : ℕ → ℕ
region_len zero = 0
region_len (suc r) = suc (suc r)

-- k bytes from a on
abbrev pub part : ℕ → ℕ → Text → Text
part k a t = take k (drop a t)

-- the four bytes of a script from a on, if there is one
abbrev pub script_at : Bool → ℕ → Text → Option Text
script_at true a t = Some (part 4 a t)
script_at false a t = None

-- the r bytes of a region from a on; none if r is 0
abbrev pub region_at : ℕ → ℕ → Text → Option Text
region_at zero a t = None
region_at (suc r) a t = Some (part (suc r) a t)

-- the identifier whose text t begins with: its language has f bytes, and a script and a region of r
-- bytes follow
unfoldable pub plain_identifier : ℕ → Bool → ℕ → Text → Identifier
plain_identifier f s r t = record {
  language = take f t;
  script = script_at s (f + 1) t;
  region = region_at r (f + (script_len s + 1)) t;
  variants = [];
}

-- What may stand at a place of sixteen bytes.

-- a letter, whose case does not count; it is lower in the normal text
abbrev pub lower_letter : Place
lower_letter = record { mask = 223; least = 65; span = 25; normal = 97 }

-- the same; it is upper in the normal text
abbrev pub upper_letter : Place
upper_letter = record { mask = 223; least = 65; span = 25; normal = 65 }

abbrev pub hyphen : Place
hyphen = record { mask = 255; least = 45; span = 0; normal = 45 }

abbrev pub digit : Place
digit = record { mask = 255; least = 48; span = 9; normal = 48 }

abbrev pub any_byte : Place
any_byte = record { mask = 0; least = 0; span = 0; normal = 0 }

-- no byte
abbrev pub no_byte : Place
no_byte = record { mask = 0; least = 1; span = 0; normal = 0 }

-- those of a region of two letters and of the hyphen before it
abbrev pub region_places : List Place
region_places = hyphen ∷ upper_letter ∷ upper_letter ∷ []

-- those of a region of three digits and of the hyphen before it
abbrev pub code_places : List Place
code_places = hyphen ∷ digit ∷ digit ∷ digit ∷ []

-- those of a script and of the hyphen before it, and then others
abbrev pub script_places : List Place → List Place
script_places ps = hyphen ∷ upper_letter ∷ lower_letter ∷ lower_letter ∷ lower_letter ∷ ps

-- how far the bits of a byte that count are above the least
abbrev pub above : Place → ℕ → ℕ
above p b = (bit_and b p.mask + (256 - p.least)) % 256

-- eight places for the language, those after it, and places of any byte up to 24
abbrev pub row : List Place → List Place
row ps = replicate 8 lower_letter ++ (ps ++ replicate (16 - length ps) any_byte)
