-- What a plain identifier is read as.
use Rattle.std.specs.Prelude.{◌≡◌, ◌≢◌, ◌⊎◌, ℕ, ◌+◌, ◌-◌, ◌%◌, ◌<◌, ◌≤◌, Bool, true, false, List, [], length}
use Rattle.std.specs.Prelude.{map, take, get_or}
use Rattle.iloc_spec_grammar.specs.Syntax.{Text, pieces, languages, Identifier}
use Rattle.iloc_spec_grammar.specs.Meaning.{IdentifierMeans}
use Rattle.iloc_spec_grammar.specs.Values.{identifier_text, IsIdentifierValue}
use Rattle.iloc_pieces.specs.PlainShape.{script_len, region_len, plain_identifier, no_byte, region_places}
use Rattle.iloc_pieces.specs.PlainShape.{code_places, script_places, above, row}
use Rattle.iloc_pieces.specs.declared.plain.Plain.{Plain}
use Rattle.iloc_pieces.specs.declared.tail.Place.{Place}
use Rattle.iloc_pieces.specs.declared.tail.Tail.{Tail}

-- the identifier that was read
abbrev pub value_of : Plain → Identifier
value_of p = plain_identifier p.language p.has_script p.region p.bytes

-- the bytes begin with its normal text, and its words stand there one after the other
pub record AreWords (p : Plain) : Type 0 where
  pub wide : length p.bytes ≡ 16
  pub bytes : (i : ℕ) → get_or p.bytes i 0 < 256
  pub long : p.language + (script_len p.has_script + region_len p.region) ≡ p.len
  pub fits : p.len ≤ 16
  pub some : 2 ≤ p.language
  pub language : p.language ≤ 8
  pub region : p.region ≤ 3
  pub no_letter : p.region ≢ 1
  pub normal : take p.len p.bytes ≡ identifier_text (value_of p)

-- the text means it, and is as long
pub record IsPlain (t : Text) (p : Plain) : Type 0 where
  pub words : AreWords p
  pub value : IsIdentifierValue languages (value_of p)
  pub means : IdentifierMeans languages (pieces t) (value_of p)
  pub no_variant : means.written.variants ≡ []
  pub long : p.len ≡ length t

-- What follows the language, by whether there is a script and by the length of the region.
pub data ShapeOf : Bool → ℕ → List Place → Type 0 where
  language : ShapeOf false 0 []
  region : ShapeOf false 2 region_places
  code : ShapeOf false 3 code_places
  script : ShapeOf true 0 (script_places [])
  script_region : ShapeOf true 2 (script_places region_places)
  script_code : ShapeOf true 3 (script_places code_places)

-- what m bytes after the language are, if they may follow it
pub record IsShape (m : ℕ) (t : Tail) : Type 0 where
  pub places : List Place
  pub long : script_len t.has_script + region_len t.region ≡ m
  pub shape : ShapeOf t.has_script t.region places
  pub mask : t.mask ≡ map (λ p. p.mask) (row places)
  pub least : t.least ≡ map (λ p. p.least) (row places)
  pub span : t.span ≡ map (λ p. p.span) (row places)
  pub normal : t.normal ≡ map (λ p. p.normal) (row places)

-- what may stand at place i of a row
abbrev pub place_at : Tail → ℕ → Place
place_at t i = record {
  mask = get_or t.mask i 0;
  least = get_or t.least i 0;
  span = get_or t.span i 0;
  normal = get_or t.normal i 0;
}

-- no byte may stand after the language, or else m bytes have a shape
abbrev pub MayHaveShape : ℕ → Tail → Type 0
MayHaveShape m t = (place_at t 8 ≡ no_byte) ⊎ IsShape m t

-- Of sixteen bytes v that begin with a language of f bytes.

-- how far each is above the least that may stand at its place
abbrev pub AreAboveLeast : Tail → ℕ → Text → Text → Type 0
AreAboveLeast t f v a = (i : ℕ) → i < 16
    → get_or a i 0 ≡ above (place_at t (8 - f + i)) (get_or v i 0)

-- none is further above it than may be
abbrev pub AreAllowed : Tail → ℕ → Text → Type 0
AreAllowed t f a = (i : ℕ) → i < 16 → get_or a i 0 ≤ (place_at t (8 - f + i)).span

-- the bytes of the normal text are as far above its least
abbrev pub AreNormal : Tail → ℕ → Text → Text → Type 0
AreNormal t f a w = (i : ℕ) → i < 16
    → get_or w i 0 ≡ (get_or a i 0 + (place_at t (8 - f + i)).normal) % 256
