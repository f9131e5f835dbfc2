-- The bits of a set of kinds, and the kinds in it from a number on.
use Rattle.std.proofs.Common.{◌≡◌, ℕ, ◌+◌, ◌*◌, ◌%◌, ◌<◌, ◌^◌, Bool, true, false, ◌&&◌, ◌||◌, ◌==◌, ◌∷◌, drop, refl, arith, ◌++◌}
use Rattle.std.specs.Int.{bit_at}
use lib.Bits.{bit_or}
use Rattle.std.proofs.lemmas.Bool.{cases_eq, eq-eqb, ne_eqb}
use Rattle.std.proofs.lemmas.Nat.Bits.{bit_at_or, bit_at-pow_same, bit_at-pow_other}
use Rattle.iloc_expected.specs.declared.kinds.Expected.{Expected}
use Rattle.iloc_expected.specs.declared.kinds.PieceKind.{PieceKind}
use Rattle.iloc_expected.specs.declared.kinds.PieceKind.TheVariants as kinds
use Rattle.iloc_expected.specs.Kinds.{has, kind_bit}
use Rattle.iloc_expected.specs.Words.{piece_kinds, named_from, before_next, after_first, kind_words, words_of}
use Rattle.iloc_spec_grammar.specs.Syntax.{Text}

-- with the bit of n it is set too
pub with_bit : (bits n m : ℕ) →
    (bit_at (bit_or bits (2 ^ n)) m == 1) ≡ (((n == m) && true) || (bit_at bits m == 1))
with_bit bits n m = grind (arith, cases_eq, bit_at-pow_same, bit_at_or, eq-eqb, bit_at-pow_other, ne_eqb)

-- the bit of a kind fits
fits : (k : PieceKind) → 1 * 2 ^ kind_bit k % 65536 ≡ 2 ^ kind_bit k
fits kinds.Language = refl
fits _ = refl

pub with_kind : (bits : ℕ) (k other : PieceKind) (n : ℕ) (holds : Bool) → n ≡ kind_bit k → holds ≡ true →
    has (record { bits = bit_or bits (1 * 2 ^ n % 65536) }) other
    ≡ (((kind_bit k == kind_bit other) && holds) || has (record { bits = bits }) other)
with_kind bits k other n holds e h = grind (arith, fits, with_bit)

-- ---- kinds from a number on

-- the kinds from that of a piece on
drop_kind : (k : PieceKind) → kind_bit k < 12 →
    drop (kind_bit k) piece_kinds ≡ k ∷ drop (kind_bit k + 1) piece_kinds
drop_kind kinds.End h = absurd (omega arith)
drop_kind _ h = refl

pub named_in : (set : Expected) (k : PieceKind) (n : ℕ) → kind_bit k ≡ n → n < 12 → has set k ≡ true →
    named_from set n ≡ k ∷ named_from set (n + 1)
named_in set k n e h y = grind (arith, drop_kind)

pub named_out : (set : Expected) (k : PieceKind) (n : ℕ) → kind_bit k ≡ n → n < 12 → has set k ≡ false →
    named_from set n ≡ named_from set (n + 1)
named_out set k n e h y = grind (arith, drop_kind)

-- what is written from a number on: what stands before the next words, these, and the rest
pub rest_is : (set : Expected) (k : PieceKind) (number n : ℕ) (before words : Text) → n ≡ kind_bit k →
    named_from set number ≡ k ∷ named_from set (kind_bit k + 1) →
    before ≡ before_next (named_from set (n + 1)) → words ≡ kind_words k →
    before ++ (words ++ after_first (named_from set (n + 1))) ≡ after_first (named_from set number)
rest_is set k number n before words en e eb ew = grind arith

pub whole_is : (set : Expected) (k : PieceKind) (n : ℕ) (words : Text) → n ≡ kind_bit k →
    named_from set 0 ≡ k ∷ named_from set (kind_bit k + 1) → words ≡ kind_words k →
    words ++ after_first (named_from set (n + 1)) ≡ words_of set
whole_is set k n words en e ew = grind arith

-- an empty set has no kind
pub none_has : (k : PieceKind) → has (record { bits = 0 }) k ≡ false
none_has kinds.Language = refl
none_has _ = refl
