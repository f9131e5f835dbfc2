-- What the functions of the reader say of one piece more.
use Rattle.std.proofs.Common.{◌≡◌, ◌≢◌, ◌==◌, ◌≤◌, ◌-◌, ℕ, suc, Bool, true, false, not, List, [], ◌∷◌, ◌++◌, map, slice_index, Option, Some, None, IfSome, option_map, refl, sym, ap, subst, arith}
use Rattle.std.specs.List.{list_any}
use Rattle.std.specs.Char.{to_ascii_lowercase}
use Rattle.iloc_spec_grammar.specs.Syntax.{code_u, Text, Variant, languages, is_word, IsWord, lower, is_one_byte}
use Rattle.iloc_spec_grammar.specs.Syntax as kinds
use Rattle.iloc_normalize.specs.declared.Mode.{Mode}
use Rattle.iloc_normalize.specs.declared.Mode.TheVariants.{Locale, Data}
use Rattle.iloc_pieces.specs.Cursor.{IsNextPiece, IsShortPiece, piece_left, pieces_left}
use Rattle.iloc_pieces.specs.declared.place.Cursor.{Cursor}
use Rattle.iloc_pieces.proofs.CursorLemmas.{short_variant, short_region, short_script, short_field_key, single_short}
use Rattle.iloc_faults.specs.declared.state.Part.{Part}
use Rattle.iloc_faults.specs.declared.state.Part.TheVariants.{Start, Head, Transform, Source, FieldKey, Subdivision}
use Rattle.iloc_faults.specs.declared.state.Stage.{Stage}
use Rattle.iloc_faults.specs.declared.state.Stage.TheVariants.{Language, Script, Region}
use Rattle.iloc_faults.specs.declared.state.State.{State}
use Rattle.iloc_faults.specs.Next.{Reached, plain, is_new, is_seen, when, may_begin, part_of, begins_block, after_region_next, after_script_next, word_next, piece_next, block_next, inside_next, next}
use Rattle.iloc_faults.specs.States.{AreSingletonsSeen, AreVariantsRead, IsEarly, HasNone, IsPieceRead, IsWordRead, AreNew, AreNewFrom, are_same, bare, first_variants, reached, variants_left}
use Rattle.iloc_faults.proofs.VariantsLeft.{one_and_more, some_left}
use Rattle.iloc_faults.proofs.Bits.{language_short, piece_short}

-- ---- whether a variant is new

pub new_data : (vs : List Text) (v : Text) → vs ≢ [] → false ≡ is_new Data vs v
new_data vs v h = grind arith

new_many : (mode : Mode) (vs : List Text) (v : Text) → mode ≢ Data →
    is_new mode vs v ≡ not (list_any (are_same v) vs)
new_many mode vs v h = grind arith

-- a new one is none of them
new_differs : (mode : Mode) (vs : List Text) (v : Text) → is_new mode vs v ≡ true →
    list_any (are_same v) vs ≡ false
new_differs mode vs v h = grind arith

-- of the words that follow, the first is new
one_less : (vs ws : List Text) (v : Text) (n : ℕ) → AreNew are_same vs (v ∷ ws) n →
    list_any (are_same v) vs ≡ false → (k : ℕ) × (n ≡ suc k) × AreNew are_same (vs ++ (v ∷ [])) ws k
one_less vs ws v n h k = grind arith

-- so many are new: none, or the first
none_new : (vs ws : List Text) (v : Text) (n : ℕ) → AreNew are_same vs (v ∷ ws) n →
    list_any (are_same v) vs ≡ (n == 0)
none_new vs ws v n h = grind arith

-- the words that are left begin with the piece, a variant
words_left : (at : Cursor) → is_word Variant (piece_left at) ≡ true →
    map lower (variants_left at)
    ≡ lower (piece_left at) ∷ map lower (first_variants (some_left at).0)
words_left at e = grind (arith, one_and_more, some_left)

pub new_some : (mode : Mode) (vs : List Text) (at : Cursor) (n : ℕ) → mode ≢ Data →
    is_word Variant (piece_left at) ≡ true → AreNew are_same vs (map lower (variants_left at)) n →
    not (n == 0) ≡ is_new mode vs (lower (piece_left at))
new_some mode vs at n other e h = grind (arith, words_left, new_many, none_new)

-- there is one at least
pub new_at_least : (mode : Mode) (vs : List Text) (at : Cursor) (n : ℕ) →
    is_word Variant (piece_left at) ≡ true → is_new mode vs (lower (piece_left at)) ≡ true →
    AreNewFrom mode vs at n → (mode ≡ Data → n ≡ 1) → 1 ≤ n
new_at_least mode vs at n e new h one = grind (arith, words_left, one_less)

-- ---- words of an identifier

module _ (mode : Mode) (vs : List Text) (at : Cursor) where
  both : is_word Variant (piece_left at) ≡ true → is_new mode vs (lower (piece_left at)) ≡ true →
      after_region_next mode vs (piece_left at) ≡ Some (Region, vs ++ (lower (piece_left at) ∷ []))
  both e n = rw (e, n) refl

  pub variant_read : (n : ℕ) → is_word Variant (piece_left at) ≡ true →
      is_new mode vs (lower (piece_left at)) ≡ true → AreNewFrom mode vs at n →
      IsWordRead mode at (after_region_next mode vs (piece_left at)) (Some (Region, Some (n - 1)))
  variant_read n e new h = (
    vs ++ (lower (piece_left at) ∷ []),
    both e new,
    short_variant (piece_left at) e,
    tt,
    λ m next. (λ w. some vs w, more m next),
  )
    where
      some : (xs : List Text) → xs ++ (lower (piece_left at) ∷ []) ≢ []
      some [] e = cc
      some (x ∷ xs) e = cc

      more : (m : Cursor) → IsNextPiece at m → AreNewFrom mode (vs ++ (lower (piece_left at) ∷ [])) m (n - 1)
      more m next other =
          let words = ap (map lower) (one_and_more at (pieces_left m) next.pieces e) in
          let known = subst (λ (ws : List Text). AreNew are_same vs ws n) words (h other) in
          let less = one_less vs _ (lower (piece_left at)) n known (new_differs mode vs _ new) in
          let rest : less.0 ≡ n - 1 = omega (arith, less.1) in
          subst (λ (k : ℕ).
          AreNew are_same (vs ++ (lower (piece_left at) ∷ [])) (map lower (variants_left m)) k)
          rest less.2

pub region_read : (mode : Mode) (at : Cursor) → is_word kinds.Region (piece_left at) ≡ true →
    IsWordRead mode at (after_script_next mode [] (piece_left at)) (Some (Region, None))
region_read mode at e = grind (arith, short_region)

-- no variant comes before a script or a region
pub none_yet : (mode : Mode) (at : Cursor) (first : Option ℕ) (vs : List Text) → first ≡ None →
    AreVariantsRead mode first at vs → vs ≡ []
none_yet mode at first vs h k = grind arith

pub script_read : (mode : Mode) (at : Cursor) (vs : List Text) → vs ≡ [] →
    is_word kinds.Script (piece_left at) ≡ true →
    IsWordRead mode at (word_next mode Language vs (piece_left at)) (Some (Script, None))
script_read mode at vs z e = grind (arith, short_script)

-- ---- parts without variants

none_early : (p : Part) → HasNone p None
none_early p = grind arith

pub plain_read : (mode : Mode) (at : Cursor) (bits : ℕ) (seen : List ℕ) → AreSingletonsSeen bits seen →
    (o : Option Part) → IfSome o (λ _. IsShortPiece (piece_left at)) →
    IsPieceRead mode at (option_map (plain seen) o) (option_map (bare bits) o)
plain_read mode at bits seen h None short = refl
plain_read mode at bits seen h (Some p) short = grind (arith, none_early)

-- the same, as the reader makes it
pub plain_is : (mode : Mode) (at : Cursor) (bits : ℕ) (seen : List ℕ) → AreSingletonsSeen bits seen →
    (o : Option Part) →
    IfSome o (λ _. IsShortPiece (piece_left at)) → (s : Option State) → s ≡ option_map (bare bits) o →
    (r : Option Reached) → r ≡ option_map (plain seen) o → IsPieceRead mode at r s
plain_is mode at bits seen h o short s e r f = subst (λ x. IsPieceRead mode at x s) (sym f)
    (subst (IsPieceRead mode at (option_map (plain seen) o)) (sym e) (plain_read mode at bits seen h o short))

-- ---- words in their places

-- a word of the head, and one after `t`
pub word_read : (mode : Mode) (of : Stage → Part) →
    ((stage : Stage) (first : Option ℕ) → IsEarly stage first → HasNone (of stage) first) →
    (at : Cursor) (bits : ℕ) (seen : List ℕ) → AreSingletonsSeen bits seen → (o : Option (Stage × List Text))
    → (w : Stage × Option ℕ) → IsWordRead mode at o (Some w)
    → IsPieceRead mode at (option_map (λ (x : Stage × List Text). reached (of x.0) x.1 seen) o)
    (Some (record { part = of w.0; variants = w.1; seen = bits }))
word_read mode of none at bits seen h o w (ws, e, short, early, more) = (
  ws,
  seen,
  ap (option_map (λ (x : Stage × List Text). reached (of x.0) x.1 seen)) e,
  short,
  λ m next. record { seen_are = h; variants_are = more m next; early = none w.0 w.1 early },
)

-- ---- singletons

-- its singleton was seen
pub block_seen : (at : Cursor) (part : Part) (seen : List ℕ) →
    is_seen seen (slice_index (piece_left at) 0) ≡ true →
    IsPieceRead Locale at (block_next Locale part seen (slice_index (piece_left at) 0)) None
block_seen at part seen e = grind arith

-- it begins
pub block_read : (at : Cursor) (part : Part) (bits : ℕ) (seen : List ℕ) → is_one_byte (piece_left at) ≡ true →
    may_begin part (slice_index (piece_left at) 0) ≡ true →
    is_seen seen (slice_index (piece_left at) 0) ≡ false
    → AreSingletonsSeen bits (to_ascii_lowercase (slice_index (piece_left at) 0) ∷ seen) → (p : Part) →
    p ≡ part_of (to_ascii_lowercase (slice_index (piece_left at) 0)) →
    IsPieceRead Locale at (block_next Locale part seen (slice_index (piece_left at) 0)) (Some (bare bits p))
block_read at part bits seen one begins new h p e = (
  [],
  to_ascii_lowercase (slice_index (piece_left at) 0) ∷ seen,
  rw (begins, new) (grind (arith, slice_index)),
  single_short (piece_left at) one,
  λ m next. record { seen_are = h; variants_are = refl; early = none_early p },
)

-- that of a data locale, and none of it
pub data_read : (at : Cursor) (part : Part) (stage : Stage) (bits : ℕ) (seen : List ℕ) →
    AreSingletonsSeen bits seen → is_one_byte (piece_left at) ≡ true → part ≡ Head stage →
    to_ascii_lowercase (slice_index (piece_left at) 0) ≡ code_u
    → (s : Option State) → s ≡ option_map (bare bits) (Some Subdivision) →
    IsPieceRead Data at (block_next Data part seen (slice_index (piece_left at) 0)) s
data_read at part stage bits seen h one e u s f = rw (e, f) (rw u (
  [],
  seen,
  refl,
  single_short (piece_left at) one,
  λ m next. record { seen_are = h; variants_are = refl; early = tt },
))

-- ---- pieces inside

module _ (mode : Mode) (at : Cursor) (part : Part) (vs : List Text) (seen : List ℕ) (bits : ℕ)
    (h : AreSingletonsSeen bits seen) where
  pub start_read : part ≡ Start → (s : Option State) →
      s ≡ option_map (bare bits) (when (is_word (kinds.Language languages) (piece_left at)) (Head Language)) →
      IsPieceRead mode at (inside_next mode part vs seen (piece_left at)) s
  start_read e s f =
      rw e (plain_is mode at bits seen h _ (language_short (piece_left at) (Head Language)) s f _ refl)

  pub key_read : part ≡ Transform → is_word kinds.TransformKey (piece_left at) ≡ true → (s : Option State) →
      s ≡ option_map (bare bits) (Some FieldKey) →
      IsPieceRead mode at (inside_next mode part vs seen (piece_left at)) s
  key_read e k s f =
      rw (e, k) (plain_is mode at bits seen h (Some FieldKey) (short_field_key (piece_left at) k) s f _ refl)

  pub key_read_after : (stage : Stage) → part ≡ Source stage →
      is_word kinds.TransformKey (piece_left at) ≡ true → (s : Option State) →
      s ≡ option_map (bare bits) (Some FieldKey) →
      IsPieceRead mode at (inside_next mode part vs seen (piece_left at)) s
  key_read_after stage e k s f =
      rw (e, k) (plain_is mode at bits seen h (Some FieldKey) (short_field_key (piece_left at) k) s f _ refl)

  pub language_read : part ≡ Transform → is_word kinds.TransformKey (piece_left at) ≡ false →
      (s : Option State) →
      s
      ≡ option_map (bare bits) (when (is_word (kinds.Language languages) (piece_left at)) (Source Language)) →
      IsPieceRead mode at (inside_next mode part vs seen (piece_left at)) s
  language_read e k s f =
      rw (e, k) (plain_is mode at bits seen h _ (language_short (piece_left at) (Source Language)) s f _ refl)

  pub head_read : (stage : Stage) → part ≡ Head stage → (w : Stage × Option ℕ) →
      IsWordRead mode at (word_next mode stage vs (piece_left at)) (Some w) →
      IsPieceRead mode at (inside_next mode part vs seen (piece_left at))
      (Some (record { part = Head w.0; variants = w.1; seen = bits }))
  head_read stage e w r =
      rw e (word_read mode Head (λ s f x. x) at bits seen h (word_next mode stage vs (piece_left at)) w r)

  pub source_read : (stage : Stage) → part ≡ Source stage →
      is_word kinds.TransformKey (piece_left at) ≡ false → (w : Stage × Option ℕ) →
      IsWordRead mode at (word_next mode stage vs (piece_left at)) (Some w) →
      IsPieceRead mode at (inside_next mode part vs seen (piece_left at))
      (Some (record { part = Source w.0; variants = w.1; seen = bits }))
  source_read stage e k w r =
      rw (e, k)
      (word_read mode Source (λ s f x. x) at bits seen h (word_next mode stage vs (piece_left at)) w r)

-- the part is inside another block
abbrev is_inside : Part → Bool
is_inside Start = false
is_inside (Head stage) = false
is_inside Transform = false
is_inside (Source stage) = false
is_inside _ = true

inside_is : (mode : Mode) (part : Part) (vs : List Text) (seen : List ℕ) (p : Text) → is_inside part ≡ true →
    inside_next mode part vs seen p ≡ option_map (plain seen) (piece_next part p)
inside_is mode part vs seen p h = grind arith

pub other_read : (mode : Mode) (at : Cursor) (part : Part) (vs : List Text) (seen : List ℕ) (bits : ℕ) →
    AreSingletonsSeen bits seen → part ≢ Start → ((stage : Stage) → part ≢ Head stage) → part ≢ Transform →
    ((stage : Stage) → part ≢ Source stage)
    → (s : Option State) → s ≡ option_map (bare bits) (piece_next part (piece_left at)) →
    IsPieceRead mode at (inside_next mode part vs seen (piece_left at)) s
other_read mode at part vs seen bits h a b c d s f =
    let none = inside_is mode part vs seen (piece_left at) (by part a b c d) in
    let short = piece_short part (piece_left at) in
    plain_is mode at bits seen h (piece_next part (piece_left at)) short s f _ none
  where
    by : (part : Part) → part ≢ Start → ((stage : Stage) → part ≢ Head stage) → part ≢ Transform →
        ((stage : Stage) → part ≢ Source stage) → is_inside part ≡ true
    by Start a b c d = absurd (a refl)
    by (Head stage) a b c d = absurd (b stage refl)
    by Transform a b c d = absurd (c refl)
    by (Source stage) a b c d = absurd (d stage refl)
    by _ a b c d = refl

-- ---- a piece

pub begins_read : (mode : Mode) (at : Cursor) (part : Part) (vs : List Text) (seen : List ℕ) →
    begins_block part (piece_left at) ≡ true → (s : Option State) →
    IsPieceRead mode at (block_next mode part seen (slice_index (piece_left at) 0)) s →
    IsPieceRead mode at (next mode (reached part vs seen) (piece_left at)) s
begins_read mode at part vs seen e s h = rw e h

pub inside_read : (mode : Mode) (at : Cursor) (part : Part) (vs : List Text) (seen : List ℕ) →
    begins_block part (piece_left at) ≡ false → (s : Option State) →
    IsPieceRead mode at (inside_next mode part vs seen (piece_left at)) s →
    IsPieceRead mode at (next mode (reached part vs seen) (piece_left at)) s
inside_read mode at part vs seen e s h = rw e h
