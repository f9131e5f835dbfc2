-- What comes next is of a kind that may come, and the part is that of its place.
use Rattle.std.proofs.Common.{◌≡◌, ℕ, Bool, true, false, ◌&&◌, ◌||◌, ◌==◌, List, [], ◌∷◌, ◌++◌, slice_index, Option, Some, None, option_map, codes, if◌then◌else◌, refl, sym, ◌∙◌, subst, true≢false, inl, inr, arith}
use Rattle.std.specs.List.{list_any}
use Rattle.std.specs.Char.{is_ascii_alphanumeric, to_ascii_lowercase}
use Rattle.std.proofs.lemmas.Bool.{cases_Bool, and_parts, or_parts, not-true, or_left, or_right, eqb-true}
use Rattle.iloc_spec_grammar.specs.Syntax.{Text, code_t, code_u, code_x, is_word, is_one_byte, is_other_singleton, lower, is_same, UnicodeKey, TransformKey}
use Rattle.iloc_spec_grammar.proofs.MapLaws.{same_is}
use Rattle.iloc_spec_grammar.proofs.Singletons.{IsKind, of_u, of_t, of_x, another, kind_of, lower_letter}
use Rattle.iloc_normalize.specs.declared.Mode.{Mode}
use Rattle.iloc_normalize.specs.declared.Mode.TheVariants.{Langid, Locale, Data}
use Rattle.iloc_faults.specs.declared.state.Part.{Part}
use Rattle.iloc_faults.specs.declared.state.Part.TheVariants.{Start, Head, Transform, Source, FieldKey, FieldValue, Unicode, Keyword, Other, OtherWord, Private, PrivateWord, Subdivision, SubdivisionKey, SubdivisionValue}
use Rattle.iloc_faults.specs.declared.state.Stage.{Stage}
use Rattle.iloc_faults.specs.Next.{Reached, plain, when, takes_any, part_of, begins_block, block_next, inside_next, piece_next, next}
use Rattle.iloc_faults.specs.States.{reached}
use Rattle.iloc_expected.specs.Kinds.{Place, InExtension, InIdentifier}
use Rattle.iloc_expected.specs.Readings.{IsReadAt, keyed_after}
use Rattle.iloc_expected.proofs.Places.{place_more, any_more}

-- ---- what a step made

pub of_when : (b : Bool) (q r : Part) → when b q ≡ Some r → (b ≡ true) × (q ≡ r)
of_when true q r e = (refl, cc)
of_when false q r e = cc

pub of_plain : (o : Option Part) (seen : List ℕ) (r : Reached) → option_map (plain seen) o ≡ Some r →
    o ≡ Some r.part
of_plain o seen r h = grind arith

abbrev Words : Type 0
Words = Stage × List Text

pub of_words : (of : Stage → Part) (o : Option Words) (seen : List ℕ) (r : Reached) →
    option_map (λ (w : Words). reached (of w.0) w.1 seen) o ≡ Some r →
    (w : Words) × (o ≡ Some w) × (r.part ≡ of w.0)
of_words of o seen r h = grind arith

-- ---- a block begins

-- a block does not begin where each piece is taken
abbrev Begins : Place → Text → Type 0
Begins w p = place_more w p ≡ InExtension (to_ascii_lowercase (slice_index p 0)) []

pub other_apart : (c : ℕ) → is_other_singleton c ≡ true →
    ((c == code_t) ≡ false) × ((c == code_u) ≡ false) × ((c == code_x) ≡ false)
other_apart c h = grind (arith, or_parts, not-true, and_parts)

-- a place where a piece of one byte is a singleton
pub data IsOutside (w : Place) : Type 0 where
  in_head : w ≡ InIdentifier → IsOutside w
  in_block : (c : ℕ) (qs : List Text) → w ≡ InExtension c qs → (c == code_x) ≡ false → IsOutside w

pub outside : (part : Part) (keyed : Bool) (w : Place) → IsReadAt part keyed w → takes_any part ≡ false →
    IsOutside w
outside Start keyed w at t = absurd (true≢false t)
outside (Head stage) keyed w at t = in_head at.0
outside Transform keyed w at t = in_block code_t [] at.0 refl
outside (Source stage) keyed w at t = in_block code_t (at.0 ∷ at.1) at.2 refl
outside FieldKey keyed w at t = in_block code_t (at.0 ∷ at.1) at.2 refl
outside FieldValue keyed w at t = in_block code_t (at.0 ∷ at.1) at.2 refl
outside Unicode keyed w at t = in_block code_u [] at.0 refl
outside Keyword keyed w at t = in_block code_u at.0 at.1 refl
outside Other keyed w at t = in_block at.0 at.1 at.2 (other_apart at.0 at.3).2
outside OtherWord keyed w at t = in_block at.0 at.1 at.2 (other_apart at.0 at.3).2
outside Private keyed w at t = absurd (true≢false t)
outside PrivateWord keyed w at t = absurd (true≢false t)
outside Subdivision keyed w at t = in_block code_u [] at.0 refl
outside SubdivisionKey keyed w at t = in_block code_u at.0 at.1 refl
outside SubdivisionValue keyed w at t = in_block code_u at.0 at.1 refl

begins : {w : Place} → IsOutside w → (p : Text) → is_one_byte p ≡ true → Begins w p
begins h p k = grind arith

-- the part of a singleton in lower case
begun : (c : ℕ) → is_ascii_alphanumeric c ≡ true → (keyed : Bool) (p : Text) →
    IsReadAt (part_of c) (keyed_after keyed (part_of c) p) (InExtension c [])
begun c a keyed p = grind (arith, kind_of, IsKind, of_u, of_t, of_x, another, other_apart)

pub of_if : (b : Bool) (x r : Reached) → (if b then Some x else None) ≡ Some r → (b ≡ true) × (x ≡ r)
of_if true x r e = (refl, cc)
of_if false x r e = cc

-- what begins is read at its place
block_made : (mode : Mode) (part : Part) (seen : List ℕ) (c : ℕ) (keyed : Bool) (p : Text) (r : Reached) →
    block_next mode part seen c ≡ Some r →
    IsReadAt r.part (keyed_after keyed r.part p) (InExtension (to_ascii_lowercase c) [])
block_made Langid part seen c keyed p r e = cc
block_made Locale part seen c keyed p r e =
    let m = of_if _ _ r e in grind (arith, and_parts, begun, lower_letter)
block_made Data (Head stage) seen c keyed p r e = grind (arith, of_if, eqb-true)
block_made Data _ seen c keyed p r e = cc

-- ---- a piece goes on with its block

pub no_true : (b : Bool) → (b && true) ≡ false → b ≡ false
no_true false e = refl
no_true true e = cc

-- `sd` is a key
sd_by : (p : Text) → lower p ≡ codes "sd" → is_word UnicodeKey p ≡ true
unfolding lower is_word
sd_by [] e = cc
sd_by (a ∷ []) e = cc
sd_by (a ∷ b ∷ []) e = grind arith
sd_by (a ∷ b ∷ c ∷ p) e = cc

pub sd_key : (p : Text) → is_same (lower p) (codes "sd") ≡ true → is_word UnicodeKey p ≡ true
sd_key p h = sd_by p (same_is (lower p) (codes "sd") h)

-- in a block other than that of `x`
inside_more : (c : ℕ) (qs : List Text) (w : Place) (p : Text) → w ≡ InExtension c qs →
    (c == code_x) ≡ false → is_one_byte p ≡ false → place_more w p ≡ InExtension c (qs ++ (p ∷ []))
inside_more c qs w p e n one = rw (e, n, one) refl

more_true : (f : Text → Bool) (qs : List Text) (p : Text) → list_any f qs ≡ true →
    list_any f (qs ++ (p ∷ [])) ≡ true
more_true f qs p e = any_more f qs p ∙ rw e refl

more_false : (f : Text → Bool) (qs : List Text) (p : Text) → list_any f qs ≡ false → f p ≡ false →
    list_any f (qs ++ (p ∷ [])) ≡ false
more_false f qs p e g = any_more f qs p ∙ rw (e, g) refl

last_true : (f : Text → Bool) (qs : List Text) (p : Text) → f p ≡ true →
    list_any f (qs ++ (p ∷ [])) ≡ true
last_true f qs p e = grind (arith, any_more, or_right)

-- by what a test chose
pub by_test : {X P : Type 0} {x y z : X} (b : Bool) → (if b then x else y) ≡ z → (b ≡ true → x ≡ z → P) →
    (b ≡ false → y ≡ z → P) → P
by_test true e f g = f refl e
by_test false e f g = g refl e

module _ (keyed : Bool) (w : Place) (p : Text) where
  abbrev Made : Part → Type 0
  Made q = IsReadAt q (keyed_after keyed q p) (place_more w p)

  is_made : {r q : Part} → Some r ≡ Some q → Made r → Made q
  is_made {r} {q} e = let s : r ≡ q = cc in subst Made s

  made_when : (b : Bool) (r : Part) {q : Part} → when b r ≡ Some q → Made r → Made q
  made_when b r {q} e = subst Made (of_when b r q e).1

  -- the block with the piece

  field_on : IsReadAt FieldValue keyed w → is_one_byte p ≡ false → Made FieldValue
  field_on at one = (
    at.0,
    at.1 ++ (p ∷ []),
    inside_more code_t (at.0 ∷ at.1) w p at.2 refl one,
    more_true (is_word TransformKey) (at.0 ∷ at.1) p at.3,
    refl,
  )

  other_on : IsReadAt Other keyed w → is_one_byte p ≡ false → (b : Bool) →
      Made (if b then OtherWord else Other)
  other_on at one b = grind (arith, inside_more, other_apart)

  private_on : IsReadAt PrivateWord keyed w → Made PrivateWord
  private_on at = (at.0 ++ (p ∷ []), rw at.1 refl, refl)

  subdivision_on : IsReadAt SubdivisionValue keyed w → is_one_byte p ≡ false → Made SubdivisionValue
  subdivision_on at one = (
    at.0 ++ (p ∷ []),
    inside_more code_u at.0 w p at.1 refl one,
    more_true (is_word UnicodeKey) at.0 p at.2,
    refl,
  )

  -- the first piece after `u` is keyed if it is a key
  first_keyed : keyed ≡ false → list_any (is_word UnicodeKey) (p ∷ []) ≡ (keyed || is_word UnicodeKey p)
  first_keyed e = grind (arith, cases_Bool)

  piece_made : (part q : Part) → IsReadAt part keyed w → begins_block part p ≡ false →
      piece_next part p ≡ Some q → Made q
  piece_made FieldKey q at b e = grind (arith, made_when, field_on, no_true)
  piece_made FieldValue q at b e = grind (arith, field_on, no_true, by_test, is_made, made_when)
  piece_made Unicode q at b e = grind (arith, made_when, inside_more, no_true, first_keyed)
  piece_made Keyword q at b e = grind (arith, made_when, inside_more, no_true, any_more)
  piece_made Other q at b e = grind (arith, made_when, other_on, no_true)
  piece_made OtherWord q at b e = grind (arith, made_when, other_on, no_true)
  piece_made Private q at b e = grind (arith, made_when, private_on)
  piece_made PrivateWord q at b e = grind (arith, made_when, private_on)
  piece_made Subdivision q at b e = grind (arith, made_when, inside_more, no_true, or_left, sd_key, of_when)
  piece_made SubdivisionKey q at b e = grind (arith, subdivision_on, no_true, by_test, is_made, made_when)
  piece_made SubdivisionValue q at b e = grind (arith, made_when, subdivision_on, no_true)
  piece_made _ q at b e = cc

  -- the part of a piece that begins no block
  inside_made : (mode : Mode) (part : Part) (vs : List Text) (seen : List ℕ) (r : Reached) →
      IsReadAt part keyed w → begins_block part p ≡ false → inside_next mode part vs seen p ≡ Some r →
      Made r.part
  inside_made mode Start vs seen r at b e = grind (arith, made_when, of_plain)
  inside_made mode (Head stage) vs seen r at b e = grind (arith, of_words, no_true)
  inside_made mode Transform vs seen r at b e =
      grind (arith, inside_more, no_true, by_test, is_made, of_plain, or_left, made_when)
  inside_made mode (Source stage) vs seen r at b e =
      grind (arith, inside_more, no_true, by_test, is_made, of_plain, last_true, of_words, more_false)
  inside_made mode part vs seen r at b e = piece_made part r.part at b (of_plain _ seen r e)

  -- a piece more is read at its place
  pub next_made : (mode : Mode) (part : Part) (vs : List Text) (seen : List ℕ) (r : Reached) →
      IsReadAt part keyed w → next mode (reached part vs seen) p ≡ Some r → Made r.part
  next_made mode part vs seen r at e = elim (cases_Bool (begins_block part p)) [
    | inl b ↦
        grind (arith, and_parts, begins, outside, not-true, block_made, slice_index)
    | inr b ↦ inside_made mode part vs seen r at b (rw b at e)
  ]
