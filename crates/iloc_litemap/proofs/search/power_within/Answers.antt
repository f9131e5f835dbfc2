use Rattle.std.proofs.Common.{◌≡◌, ◌∙◌, ℕ, zero, suc, ◌+◌, ◌-◌, ◌*◌, ◌/◌, ◌%◌, ◌^◌, ◌<◌, ◌≤◌, arith, ap, inl, inr}
use Rattle.std.proofs.Math.Nat.{pow-le-pow_right, pow-suc}
use Rattle.std.proofs.lemmas.Nat.{leading_length, one_shl, pow-add}
use Rattle.std.proofs.lemmas.Bool.{cases_lt}
use lib.Count.{count_leading_zeros}
use Rattle.iloc_litemap.proofs.search.power_within.Goals as goal

-- a sixteenth of the number has `rest` binary digits, so the number has four more, or is at least eight
record Digits (n : ℕ) : Type 0 where
  pub rest : ℕ
  pub shift : 67 - count_leading_zeros 64 (n / 16) ≡ 3 + rest
  pub few : 3 + rest < 64
  pub within : 2 ^ (3 + rest) ≤ n
  pub half : n < 2 * 2 ^ (3 + rest)

few_digits : (m a : ℕ) → a < 2 ^ 60 → 2 ^ m ≤ 2 * a + 1 → 3 + m < 64
few_digits m a less most = elim (cases_lt m 61) [
  | inl few ↦ omega (arith, few)
  | inr many ↦
      let two : 0 < 2 = omega arith in
      let wide : 2 ^ 61 ≤ 2 ^ m = pow-le-pow_right two {i = 61} {j = m} many in
      absurd (omega (arith, less, most, wide))
]

digits : (n : ℕ) → n < 2 ^ 64 → 8 < n → Digits n
digits n fits more =
    let d = leading_length 64 (n / 16) (omega (arith, fits)) in
    of d.0 d.1 d.2 d.3
  where
    of : (m : ℕ) → count_leading_zeros 64 (n / 16) + m ≡ 64 → n / 16 < 2 ^ m →
        2 ^ m ≤ 2 * (n / 16) + 1 → Digits n
    of zero all less most = record {
      rest = 0;
      shift = omega (arith, all);
      few = omega arith;
      within = omega (arith, more);
      half = omega (arith, less);
    }
    of (suc j) all less most =
        let two = pow-suc 2 j in
        let eight = pow-add 2 3 (suc j) in
        record {
          rest = suc j;
          shift = omega (arith, all);
          few = few_digits (suc j) (n / 16) (omega (arith, fits)) most;
          within = omega (arith, most, two, eight);
          half = omega (arith, less, eight);
        }

-- so the shift gives a power of two
shifted : (n : ℕ) (d : Digits n) →
    1 * 2 ^ (67 - count_leading_zeros 64 (n / 16)) % 2 ^ 64 ≡ 2 ^ (3 + d.rest)
shifted n d = ap (λ k. 1 * 2 ^ k % 2 ^ 64) d.shift ∙ one_shl (3 + d.rest) 64 d.few

pub overflow_shl-result : goal.overflow_shl-result
overflow_shl-result c =
    let d = digits c.args.n c.ranges.n.fits c.requires in omega (arith, d.shift, d.few)

pub returns-clause-power : goal.returns-clause-power
returns-clause-power c =
    let d = digits c.args.n c.ranges.n.fits c.requires in (3 + d.rest, shifted c.args.n d)

pub returns-clause-least : goal.returns-clause-least
returns-clause-least c =
    let d = digits c.args.n c.ranges.n.fits c.requires in omega (arith, d.within, shifted c.args.n d)

pub returns-clause-half : goal.returns-clause-half
returns-clause-half c =
    let d = digits c.args.n c.ranges.n.fits c.requires in omega (arith, d.half, shifted c.args.n d)
