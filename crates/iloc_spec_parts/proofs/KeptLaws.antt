-- What a reader keeps before a fault.
use Rattle.std.proofs.Common.{◌≡◌, ◌≤◌, Bool, true, false, List, [], ◌∷◌, ◌++◌, length, refl, sym, ◌∙◌, arith, true≢false}
use Rattle.std.specs.List.{AllByRecursion}
use Rattle.iloc_spec_grammar.specs.Syntax.{Field, Text, UnicodeKey, TransformKey, Attribute, IsWord, Fields, IsKeyword, is_one_byte, first_piece, front}
use Rattle.iloc_spec_grammar.specs.Reading.{passing, rest_of}
use Rattle.iloc_spec_parts.specs.Fronts.{is_field_piece, fields_front, BeginsField, has_other_length, other_front, before_bad_key}
use Rattle.iloc_spec_parts.proofs.TransformLaws.{no_key_empty}

-- keywords

abbrev pub HasKey : Field → Type 0
HasKey f = IsWord UnicodeKey f.0

pub kept_append : (fs gs : Fields) → AllByRecursion HasKey fs →
    before_bad_key (fs ++ gs) ≡ fs ++ before_bad_key gs
kept_append [] gs h = refl
kept_append (f ∷ fs) gs h = search (kept_append fs gs h.1)

pub kept_all : (fs : Fields) → AllByRecursion IsKeyword fs → before_bad_key fs ≡ fs
kept_all [] h = refl
kept_all (f ∷ fs) h = search (kept_all fs h.1)

-- the longest front

pub passing_short : (test : Text → Bool) (ps : List Text) → length (passing test ps) ≤ length ps
passing_short test [] = omega arith
passing_short test (p ∷ ps) = grind (arith, passing_short test ps)

passing_first : (test : Text → Bool) (ps : List Text) (q : Text) (qs : List Text) →
    passing test ps ≡ q ∷ qs → (first_piece ps ≡ q) × (passing test (rest_of ps) ≡ qs)
passing_first test [] q qs e = absurd (cc)
passing_first test (p ∷ ps) q qs e = grind arith

-- fields

front_is : (ps : List Text) (q : Text) (qs : List Text) → fields_front ps ≡ q ∷ qs →
    passing is_field_piece ps ≡ q ∷ qs
front_is ps q qs e = grind arith

-- where the fields at the front begin with a key and a value, so do the pieces
pub begins_field : (ps : List Text) (k v : Text) (more : List Text) →
    fields_front ps ≡ k ∷ v ∷ more → IsWord TransformKey k → IsWord Attribute v → BeginsField ps
begins_field ps k v more e key value = grind (arith, passing_first, front_is)

-- and then they are some
pub some_fields : (ps : List Text) → BeginsField ps → fields_front ps ≡ [] → ⊥
some_fields [] h e = true≢false (sym h.0 ∙ no_key_empty)
some_fields (p ∷ ps) h e = grind arith

-- other extensions

one_byte_ends : (p : Text) → is_one_byte p ≡ true → has_other_length p ≡ false
one_byte_ends p h = grind arith

-- a front that ends before a piece of one byte stands in the block
pub other_front-front : (ps : List Text) → other_front (front ps) ≡ other_front ps
other_front-front [] = refl
other_front-front (p ∷ ps) = grind (arith, one_byte_ends, other_front-front ps)
