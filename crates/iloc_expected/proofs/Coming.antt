-- A piece that comes next is of a kind that may come.
use Rattle.std.proofs.Common.{◌≡◌, ◌≢◌, ℕ, Bool, true, false, List, [], length, slice_index, Some, refl, inl, inr, arith}
use Rattle.std.specs.Char.{is_ascii_alphanumeric}
use Rattle.std.proofs.lemmas.Bool.{cases_Bool, and_parts, not-true, false_from_ne_true}
use Rattle.std.proofs.lemmas.Bool.Decides.{nat_tests}
use Rattle.iloc_spec_grammar.specs.Syntax.{Text, code_t, code_u, code_x, languages, is_word, IsWord, is_one_byte, is_other_singleton, lower, is_true, UnicodeKey, TransformKey, Attribute, Variant}
use Rattle.iloc_spec_grammar.specs.Syntax as grammar
use Rattle.iloc_spec_grammar.proofs.WordsLaws.{region_no_script, variant_no_script, variant_no_region, length-unicode_key, length-transform_key}
use Rattle.iloc_normalize.specs.declared.Mode.{Mode}
use Rattle.iloc_faults.specs.declared.state.Part.{Part}
use Rattle.iloc_faults.specs.declared.state.Part.TheVariants.{Start, Head, Transform, Source}
use Rattle.iloc_faults.specs.declared.state.Stage.{Stage}
use Rattle.iloc_faults.specs.declared.state.Stage.TheVariants.{Language, Script, Region}
use Rattle.iloc_faults.specs.Next.{Reached, is_seen, is_new, takes_any, begins_block, block_next, after_script_next, after_region_next, word_next, inside_next, piece_next, next}
use Rattle.iloc_faults.specs.States.{reached}
use Rattle.iloc_expected.specs.declared.kinds.PieceKind.TheVariants as kinds
use Rattle.iloc_expected.specs.Kinds.{Place, kind_at, identifier_kind}
use Rattle.iloc_expected.specs.Readings.{IsReadAt, may_begin_block, has_variant, may_come}
use Rattle.iloc_expected.proofs.Following.{other_apart, no_true, of_when, of_plain, of_words, of_if, sd_key, by_test, in_block, in_head, outside, IsOutside}

-- ---- a singleton

pub singleton_is : {w : Place} → IsOutside w → (p : Text) → is_one_byte p ≡ true →
    kind_at w p ≡ kinds.Singleton
singleton_is h p k = grind (arith, in_head, in_block)

-- no singleton is left only if all were seen
abbrev pub IsLeft : List ℕ → Bool → Type 0
IsLeft seen left = left ≡ false → (c : ℕ) → is_ascii_alphanumeric c ≡ true → is_seen seen c ≡ true

block_may : (mode : Mode) (part : Part) (seen : List ℕ) (c : ℕ) (left : Bool) (r : Reached) →
    takes_any part ≡ false → IsLeft seen left → block_next mode part seen c ≡ Some r →
    may_begin_block mode part left ≡ true
block_may mode part seen c left r h k e = grind (arith, of_if, and_parts, not-true)

-- ---- words

-- none were read if it is said so
abbrev pub AreNone : List Text → Bool → Type 0
AreNone vs none = none ≡ false → vs ≢ []

new_may : (mode : Mode) (vs : List Text) (v : Text) (none : Bool) → AreNone vs none →
    is_new mode vs v ≡ true → has_variant mode none ≡ true
new_may mode vs v none h k = grind arith

-- a word of an identifier: what it is, and that it fits
pub data IsOneOf (mode : Mode) (vs : List Text) (stage : Stage) (p : Text) : Type 0 where
  a_script : stage ≡ Language → identifier_kind p ≡ kinds.Script → IsOneOf mode vs stage p
  a_region : stage ≢ Region → identifier_kind p ≡ kinds.Region → IsOneOf mode vs stage p
  a_variant : is_new mode vs (lower p) ≡ true → identifier_kind p ≡ kinds.Variant → IsOneOf mode vs stage p

module _ (mode : Mode) (vs : List Text) (p : Text) where
  variant_one : (stage : Stage) (x : Stage × List Text) → after_region_next mode vs p ≡ Some x →
      IsOneOf mode vs stage p
  variant_one stage x e = grind (arith, a_variant, by_test, and_parts, variant_no_script, variant_no_region)

  region_one : (stage : Stage) (x : Stage × List Text) → stage ≢ Region →
      after_script_next mode vs p ≡ Some x → IsOneOf mode vs stage p
  region_one stage x n e =
      by_test (is_word grammar.Region p) e (λ b f. a_region n (rw (region_no_script p b, b) refl))
      (λ b f. variant_one stage x f)

  word_one : (stage : Stage) (x : Stage × List Text) → word_next mode stage vs p ≡ Some x →
      IsOneOf mode vs stage p
  word_one Language x e = grind (arith, a_script, by_test, region_one)
  word_one Script x e = region_one Script x (λ f. cc) e
  word_one Region x e = variant_one Region x e

abbrev MayWord : Mode → (Stage → Part) → Stage → (keyed none left : Bool) → Text → Type 0
MayWord mode of stage keyed none left p = may_come mode (of stage) keyed none left (identifier_kind p) ≡ true

head_word : (mode : Mode) (vs : List Text) (stage : Stage) (p : Text) (keyed none left : Bool) →
    AreNone vs none → IsOneOf mode vs stage p → MayWord mode Head stage keyed none left p
head_word mode vs stage p keyed none left h k = grind (arith, new_may)

source_word : (mode : Mode) (vs : List Text) (stage : Stage) (p : Text) (keyed none left : Bool) →
    AreNone vs none → IsOneOf mode vs stage p → MayWord mode Source stage keyed none left p
source_word mode vs stage p keyed none left h k = grind (arith, new_may)

-- ---- pieces of blocks

long_attribute : (p : Text) → IsWord Attribute p → length p ≢ 2
unfolding is_word
long_attribute p h e = grind (arith, nat_tests)

no_unicode_key : (p : Text) → IsWord Attribute p → is_word UnicodeKey p ≡ false
no_unicode_key p h = grind (arith, false_from_ne_true, long_attribute, length-unicode_key)

no_transform_key : (p : Text) → IsWord Attribute p → is_word TransformKey p ≡ false
no_transform_key p h = grind (arith, false_from_ne_true, long_attribute, length-transform_key)

module _ (mode : Mode) (keyed none left : Bool) (w : Place) (p : Text) where
  abbrev May : Part → Type 0
  May part = may_come mode part keyed none left (kind_at w p) ≡ true

  piece_may : (part q : Part) → IsReadAt part keyed w → begins_block part p ≡ false →
      piece_next part p ≡ Some q → May part
  piece_may part q h k e = grind (
    arith,
    of_when,
    no_true,
    no_transform_key,
    cases_Bool,
    other_apart,
    sd_key,
    by_test,
    no_unicode_key,
    and_parts,
  )

  inside_may : (part : Part) (vs : List Text) (seen : List ℕ) (r : Reached) → IsReadAt part keyed w →
      AreNone vs none → begins_block part p ≡ false → inside_next mode part vs seen p ≡ Some r → May part
  inside_may Start vs seen r at n b e = rw at.0 refl
  inside_may (Head stage) vs seen r at n b e = grind (arith, of_words, no_true, head_word, word_one)
  inside_may Transform vs seen r at n b e = grind (arith, cases_Bool, no_true)
  inside_may (Source stage) vs seen r at n b e = elim (cases_Bool (is_word TransformKey p)) [
    | inl k ↦ rw (at.2, no_true _ b, k) (field_may stage)
    | inr k ↦ let m = of_words Source (word_next mode stage vs p) seen r (rw k at e) in
        rw (at.2, no_true _ b, k, at.3)
        (source_word mode vs stage p keyed none left n (word_one mode vs p stage m.0 m.1))
  ]
    where
      field_may : (stage : Stage) → may_come mode (Source stage) keyed none left kinds.Field ≡ true
      field_may Language = refl
      field_may Script = refl
      field_may Region = refl
  inside_may part vs seen r at n b e = piece_may part r.part at b (of_plain _ seen r e)

  pub next_may : (part : Part) (vs : List Text) (seen : List ℕ) (r : Reached) → IsReadAt part keyed w →
      AreNone vs none → IsLeft seen left → next mode (reached part vs seen) p ≡ Some r → May part
  next_may part vs seen r at n l e = elim (cases_Bool (begins_block part p)) [
    | inl b ↦
        let h = and_parts _ _ b in
        rw (singleton_is (outside part keyed w at (not-true _ h.1)) p h.0)
        (block_may mode part seen (slice_index p 0) left r (not-true _ h.1) l (rw b at e))
    | inr b ↦ inside_may part vs seen r at n b (rw b at e)
  ]
