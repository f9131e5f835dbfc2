-- Each kind that may come has a piece that comes next.
use Rattle.std.proofs.Common.{◌≡◌, ℕ, Bool, true, false, not, ◌&&◌, List, [], ◌∷◌, Option, Some, None, is_some, option_map, codes, refl, sym, true≢false, arith}
use Rattle.std.specs.Char.{is_ascii_alphanumeric}
use Rattle.std.proofs.lemmas.Bool.{and_parts, not-true, false_from_ne_true}
use Rattle.std.proofs.lemmas.Bool.Decides.{nat_tests}
use Rattle.iloc_spec_grammar.specs.Syntax.{Text, code_t, code_u, code_x, languages, is_word, IsWord, is_one_byte, lower, is_true, UnicodeKey, TransformKey, Variant, IsHyphenFree, word_cmp}
use Rattle.iloc_spec_grammar.specs.Syntax as grammar
use Rattle.iloc_spec_grammar.proofs.WordsLaws.{variant_no_script, variant_no_region, length-transform_key}
use Rattle.iloc_normalize.specs.declared.Mode.{Mode}
use Rattle.iloc_normalize.specs.declared.Mode.TheVariants.{Langid, Locale, Data}
use Rattle.iloc_faults.specs.declared.state.Part.{Part}
use Rattle.iloc_faults.specs.declared.state.Part.TheVariants.{Start, Head, Transform, Source, FieldKey, FieldValue, Unicode, Keyword, Other, OtherWord, Private, PrivateWord, Subdivision, SubdivisionKey, SubdivisionValue}
use Rattle.iloc_faults.specs.declared.state.Stage.{Stage}
use Rattle.iloc_faults.specs.declared.state.Stage.TheVariants.{Language, Script, Region}
use Rattle.iloc_faults.specs.Next.{is_seen, is_new, may_end, takes_any, next, word_next}
use Rattle.iloc_faults.specs.States.{reached}
use Rattle.iloc_expected.specs.declared.kinds.PieceKind.{PieceKind}
use Rattle.iloc_expected.specs.declared.kinds.PieceKind.TheVariants as kinds
use Rattle.iloc_expected.specs.Kinds.{Place, kind_at, has}
use Rattle.iloc_expected.specs.Readings.{IsReadAt, has_variant, may_have_variant, may_begin_block, piece_bits}
use Rattle.iloc_expected.proofs.Following.{other_apart, in_head, outside}
use Rattle.iloc_expected.proofs.Coming.{singleton_is}
use Rattle.iloc_expected.proofs.NewVariants.{IsNewVariant}
use Rattle.iloc_expected.proofs.SetBits.{none_has}

-- a piece of the kind comes next
pub record HasPiece (mode : Mode) (part : Part) (vs : List Text) (seen : List ℕ) (w : Place)
    (kind : PieceKind) : Type 0 where
  pub piece : Text
  pub free : IsHyphenFree piece
  pub comes : is_some (next mode (reached part vs seen) piece) ≡ true
  pub is_kind : kind_at w piece ≡ kind

sample : {mode : Mode} {part : Part} {vs : List Text} {seen : List ℕ} {w : Place} {kind : PieceKind}
    (p : Text) →
    IsHyphenFree p → is_some (next mode (reached part vs seen) p) ≡ true → kind_at w p ≡ kind →
    HasPiece mode part vs seen w kind
sample p f c k = grind arith

-- ---- pieces of the other kinds

pub plain_piece : (mode : Mode) (part : Part) (vs : List Text) (seen : List ℕ) (keyed : Bool) (w : Place)
    (kind : PieceKind) → IsReadAt part keyed w → has (record { bits = piece_bits part keyed }) kind ≡ true →
    HasPiece mode part vs seen w kind
unfolding is_word languages is_true lower
plain_piece mode Start vs seen keyed w kinds.Language at h = sample (codes "abc") refl refl (rw at.0 refl)
plain_piece mode (Head Language) vs seen keyed w kinds.Script at h =
    sample (codes "abcd") refl refl (rw at.0 refl)
plain_piece mode (Head Language) vs seen keyed w kinds.Region at h =
    sample (codes "ab") refl refl (rw at.0 refl)
plain_piece mode (Head Script) vs seen keyed w kinds.Region at h =
    sample (codes "ab") refl refl (rw at.0 refl)
plain_piece mode Transform vs seen keyed w kinds.Language at h = sample (codes "abc") refl refl (rw at.0 refl)
plain_piece mode Transform vs seen keyed w kinds.Field at h = sample (codes "a0") refl refl (rw at.0 refl)
plain_piece mode (Source Language) vs seen keyed w kinds.Script at h =
    sample (codes "abcd") refl refl (rw (at.2, at.3) refl)
plain_piece mode (Source Language) vs seen keyed w kinds.Region at h =
    sample (codes "ab") refl refl (rw (at.2, at.3) refl)
plain_piece mode (Source Script) vs seen keyed w kinds.Region at h =
    sample (codes "ab") refl refl (rw (at.2, at.3) refl)
plain_piece mode (Source stage) vs seen keyed w kinds.Field at h =
    sample (codes "a0") refl refl (rw at.2 refl)
plain_piece mode FieldKey vs seen keyed w kinds.FieldValue at h =
    sample (codes "abc") refl refl (rw (at.2, at.3) refl)
plain_piece mode FieldValue vs seen keyed w kinds.FieldValue at h =
    sample (codes "abc") refl refl (rw (at.2, at.3) refl)
plain_piece mode FieldValue vs seen keyed w kinds.Field at h = sample (codes "a0") refl refl (rw at.2 refl)
plain_piece mode Unicode vs seen keyed w kinds.Attribute at h = sample (codes "abc") refl refl (rw at.0 refl)
plain_piece mode Unicode vs seen keyed w kinds.Key at h = sample (codes "ab") refl refl (rw at.0 refl)
plain_piece mode Keyword vs seen true w kinds.Value at h =
    sample (codes "abc") refl refl (rw (at.1, at.2) refl)
plain_piece mode Keyword vs seen true w kinds.Key at h = sample (codes "ab") refl refl (rw at.1 refl)
plain_piece mode Keyword vs seen false w kinds.Attribute at h =
    sample (codes "abc") refl refl (rw (at.1, at.2) refl)
plain_piece mode Keyword vs seen false w kinds.Key at h = sample (codes "ab") refl refl (rw at.1 refl)
plain_piece mode Other vs seen keyed w kinds.Other at h =
    let n = other_apart at.0 at.3 in
    sample (codes "abc") refl refl (rw (at.2, n.2, n.0, n.1) refl)
plain_piece mode OtherWord vs seen keyed w kinds.Other at h =
    let n = other_apart at.0 at.3 in
    sample (codes "abc") refl refl (rw (at.2, n.2, n.0, n.1) refl)
plain_piece mode Private vs seen keyed w kinds.Private at h = sample (codes "abc") refl refl (rw at.1 refl)
plain_piece mode PrivateWord vs seen keyed w kinds.Private at h =
    sample (codes "abc") refl refl (rw at.1 refl)
plain_piece mode Subdivision vs seen keyed w kinds.Key at h = sample (codes "sd") refl refl (rw at.0 refl)
plain_piece mode SubdivisionKey vs seen keyed w kinds.Value at h =
    sample (codes "abc") refl refl (rw (at.1, at.2) refl)
plain_piece mode SubdivisionValue vs seen keyed w kinds.Value at h =
    sample (codes "true") refl refl (rw (at.1, at.2) refl)
plain_piece mode (Head Region) vs seen keyed w kind at h = grind (arith, none_has)
plain_piece mode _ vs seen keyed w kind at h = absurd (true≢false (sym h))

-- ---- variants

-- there are no variants if it is said so
abbrev pub AreSome : List Text → Bool → Type 0
AreSome vs none = none ≡ true → vs ≡ []

new_is : (mode : Mode) (vs : List Text) (v : Text) (none : Bool) → AreSome vs none → IsNewVariant vs v →
    has_variant mode none ≡ true → is_new mode vs (lower v) ≡ true
new_is mode vs v none h k e = grind arith

module _ (mode : Mode) (vs : List Text) (seen : List ℕ) (keyed none : Bool) (w : Place) (v : Text)
    (some : AreSome vs none) (new : IsNewVariant vs v) (may : has_variant mode none ≡ true) where
  one : is_one_byte v ≡ false
  one = rw new.long refl

  no_key : is_word TransformKey v ≡ false
  no_key = grind (arith, false_from_ne_true, length-transform_key)

  no_script : is_word grammar.Script v ≡ false
  no_script = variant_no_script v new.word

  no_region : is_word grammar.Region v ≡ false
  no_region = variant_no_region v new.word

  pub word_comes : (stage : Stage) → is_some (word_next mode stage vs v) ≡ true
  word_comes stage = grind (arith, new_is, no_script, no_region)

  some_map : {X Y : Type 0} (f : X → Y) (o : Option X) → is_some o ≡ true → is_some (option_map f o) ≡ true
  some_map f None e = e
  some_map f (Some x) e = e

  pub head_variant : (stage : Stage) → IsReadAt (Head stage) keyed w →
      HasPiece mode (Head stage) vs seen w kinds.Variant
  head_variant stage at = grind (arith, one, some_map, word_comes, no_script, no_region)

  pub source_variant : (stage : Stage) → IsReadAt (Source stage) keyed w →
      HasPiece mode (Source stage) vs seen w kinds.Variant
  source_variant stage at = grind (arith, one, no_key, some_map, word_comes, no_script, no_region)

pub variant_piece : (mode : Mode) (part : Part) (vs : List Text) (seen : List ℕ) (keyed none : Bool)
    (w : Place) (v : Text) → IsReadAt part keyed w → AreSome vs none → IsNewVariant vs v →
    may_have_variant mode part none ≡ true → HasPiece mode part vs seen w kinds.Variant
variant_piece mode (Head stage) vs seen keyed none w v at s n h =
    head_variant mode vs seen keyed none w v s n h stage at
variant_piece mode (Source stage) vs seen keyed none w v at s n h =
    source_variant mode vs seen keyed none w v s n h stage at
variant_piece mode _ vs seen keyed none w v at s n h = absurd (true≢false (sym h))

-- ---- singletons

-- a singleton that was not seen
pub record IsUnseen (seen : List ℕ) (c : ℕ) : Type 0 where
  pub letter : is_ascii_alphanumeric c ≡ true
  pub new : is_seen seen c ≡ false

-- one is left if it is said so
abbrev pub HasLeft : List ℕ → Bool → Type 0
HasLeft seen left = left ≡ true → (c : ℕ) × IsUnseen seen c

no_hyphen : (c : ℕ) → is_ascii_alphanumeric c ≡ true → IsHyphenFree (c ∷ [])
no_hyphen c h = grind (arith, nat_tests)

begins_comes : (part : Part) (vs : List Text) (seen : List ℕ) (c : ℕ) → takes_any part ≡ false →
    may_end part ≡ true → is_ascii_alphanumeric c ≡ true → is_seen seen c ≡ false →
    is_some (next Locale (reached part vs seen) (c ∷ [])) ≡ true
begins_comes part vs seen c t e a n = rw (t, e, a, n) refl

pub singleton_piece : (mode : Mode) (part : Part) (vs : List Text) (seen : List ℕ) (keyed left : Bool)
    (w : Place) → IsReadAt part keyed w → HasLeft seen left → may_begin_block mode part left ≡ true →
    HasPiece mode part vs seen w kinds.Singleton
singleton_piece Langid part vs seen keyed left w at l h = absurd (true≢false (sym h))
singleton_piece Locale part vs seen keyed left w at l h =
    let a = and_parts (may_end part) (not (takes_any part) && left) h in
    let b = and_parts (not (takes_any part)) left a.1 in
    let none = not-true (takes_any part) b.0 in
    let c = l b.1 in
    record {
      piece = c.0 ∷ [];
      free = no_hyphen c.0 c.1.letter;
      comes = begins_comes part vs seen c.0 none a.0 c.1.letter c.1.new;
      is_kind = singleton_is (outside part keyed w at none) (c.0 ∷ []) refl;
    }
singleton_piece Data (Head stage) vs seen keyed left w at l h = record {
  piece = codes "u";
  free = refl;
  comes = refl;
  is_kind = singleton_is (in_head at.0) (codes "u") refl;
}
singleton_piece Data _ vs seen keyed left w at l h = absurd (true≢false (sym h))
