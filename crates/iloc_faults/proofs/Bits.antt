-- The bits of singletons, and what else the reader knows of bytes.
use Rattle.std.proofs.Common.{◌≡◌, ◌≢◌, ℕ, ◌+◌, ◌-◌, ◌<◌, ◌≤◌, ◌^◌, Bool, true, false, ◌||◌, List, [], ◌∷◌, length, take, drop, Option, IfSome, codes, max, refl, sym, ap, ◌∙◌, arith, is_some}
use Rattle.std.specs.Char.{is_ascii_alphanumeric, to_ascii_lowercase}
use Rattle.std.specs.Int.{bit_at}
use lib.Bits.{bit_and, bit_or}
use Rattle.std.proofs.lemmas.Bool.{or_cases, cases_eq}
use Rattle.std.proofs.lemmas.Bool.Decides.{nat_tests}
use Rattle.std.proofs.lemmas.Nat.Bits.{and_pow, bit_at_or, bit_at-pow_same, bit_at-pow_other}
use Rattle.iloc_spec_grammar.specs.Syntax.{Text, languages, Language, TransformKey, Attribute, is_word, lower, is_same}
use Rattle.iloc_spec_grammar.specs.Syntax as kinds
use Rattle.iloc_spec_parts.specs.DataLocales.{named_subdivision}
use Rattle.iloc_spec_grammar.proofs.MapLaws.{same_is}
use Rattle.iloc_spec_grammar.proofs.WordsLaws.{length-lower}
use Rattle.iloc_spec_grammar.proofs.Singletons.{untied, self_tied}
use Rattle.iloc_pieces.specs.Cursor.{IsShortPiece, piece_left}
use Rattle.iloc_pieces.specs.declared.place.Cursor.{Cursor}
use Rattle.iloc_pieces.proofs.CursorLemmas.{short_language, short_key, short_field_key, short_attribute, short_private, between_short, piece_inside, short_bytes, length_piece}
use Rattle.iloc_faults.specs.declared.state.Part.{Part}
use Rattle.iloc_faults.specs.declared.state.Part.TheVariants.{SubdivisionValue}
use Rattle.iloc_faults.specs.Next.{is_seen, when, piece_next, subdivision_next}
use Rattle.iloc_faults.specs.States.{AreSingletonsSeen, bit_place}

-- ---- bits

-- a bit is 0 or 1
bit_small : (n i : ℕ) → bit_at n i < 2
bit_small n i = omega arith

larger : (x y z : ℕ) → z ≡ max x y → y ≡ 1 → x < 2 → z ≡ 1
larger x y z e f l = omega arith

smaller : (x y z : ℕ) → z ≡ max x y → y ≡ 0 → z ≡ x
smaller x y z e f = omega arith

-- nothing was seen
pub none_seen : AreSingletonsSeen 0 []
none_seen c a = grind arith

-- bits are apart
places_apart : (c d : ℕ) → is_ascii_alphanumeric c ≡ true → is_ascii_alphanumeric d ≡ true →
    to_ascii_lowercase d ≢ to_ascii_lowercase c →
    bit_place (to_ascii_lowercase d) ≢ bit_place (to_ascii_lowercase c)
places_apart c d h k n e = grind (arith, nat_tests)

module _ (bits : ℕ) (seen : List ℕ) (h : AreSingletonsSeen bits seen) (c : ℕ)
    (a : is_ascii_alphanumeric c ≡ true) where
  abbrev place : ℕ
  place = bit_place (to_ascii_lowercase c)

  -- the bit is set exactly if the singleton was seen
  pub seen_set : bit_and bits (2 ^ place) ≢ 0 → is_seen seen c ≡ true
  seen_set n = grind (arith, cases_eq, and_pow)

  pub seen_not : bit_and bits (2 ^ place) ≡ 0 → is_seen seen c ≡ false
  seen_not e = grind (arith, and_pow)

  pub seen_more : AreSingletonsSeen (bit_or bits (2 ^ place)) (to_ascii_lowercase c ∷ seen)
  seen_more d k = grind (
    arith,
    self_tied,
    larger,
    bit_at_or,
    bit_at-pow_same,
    bit_small,
    places_apart,
    smaller,
    bit_at-pow_other,
    untied,
  )

-- ---- pieces that may come next are short

when_short : (b : Bool) (q : Part) (P : Type 0) → (b ≡ true → P) → IfSome (when b q) (λ _. P)
when_short true q P h = h refl
when_short false q P h = tt

either_short : (p : Text) (a b : Bool) → (a ≡ true → IsShortPiece p) → (b ≡ true → IsShortPiece p) →
    (a || b) ≡ true → IsShortPiece p
either_short p a b f g h = grind (arith, or_cases)

sd_short : (p : Text) → is_same (lower p) (codes "sd") ≡ true → IsShortPiece p
sd_short p e =
    let n : length p ≡ 2 = sym (length-lower p) ∙ ap length (same_is (lower p) (codes "sd") e) in omega arith

pub language_short : (p : Text) (q : Part) →
    IfSome (when (is_word (Language languages) p) q) (λ _. IsShortPiece p)
language_short p q = when_short _ q _ (short_language p)

pub piece_short : (part : Part) (p : Text) → IfSome (piece_next part p) (λ _. IsShortPiece p)
piece_short part p = grind (
  arith,
  when_short,
  short_attribute,
  short_field_key,
  either_short,
  short_key,
  between_short,
  short_private,
  sd_short,
)

-- ---- the value of `sd`

-- the bytes of the piece, as they are cut from the window
pub cut_bytes : (l : Cursor) → IsShortPiece (piece_left l) →
    take (l.at + l.piece_length - l.at) (drop l.at l.window.now) ≡ piece_left l
cut_bytes l short = ap (λ k. take k (drop l.at l.window.now)) (omega arith) ∙ short_bytes l short

pub cut_inside : (l : Cursor) → IsShortPiece (piece_left l) → l.at + l.piece_length ≤ length l.window.now
cut_inside l short = grind (arith, length_piece, piece_inside)

-- if these bytes name a subdivision, it may come next
pub named_next : (p w : Text) → is_word Attribute p ≡ true → kinds.is_true (lower p) ≡ false → w ≡ p →
    (names : Bool) → names ≡ is_some (named_subdivision (lower w)) → (o : Option Part) →
    o ≡ when names SubdivisionValue → o ≡ subdivision_next p
named_next p w a t e names n o f = grind arith
