use Rattle.std.proofs.Common.{◌≡◌, ℕ, ◌≤◌, ◌-◌, length, drop, true, nat_eq, sym, subst, ◌∙◌, arith}
use Rattle.std.specs.Cmp.Lexicographic.{pointwise}
use Rattle.iloc_spec_parts.specs.DataLocales.{whole}
use Rattle.iloc_data.proofs.WholeLemmas.{named_whole}
use Rattle.iloc_data.proofs.region_part.ends_as_whole.Goals as goal

at_least : (m n : ℕ) → 6 ≤ m → m ≡ n → 6 ≤ n
at_least m n h e = omega (arith, h, e)

at_most : (m n : ℕ) → m ≤ 7 → m ≡ n → n ≤ 7
at_most m n h e = omega (arith, h, e)

pub returns : goal.returns
returns c h =
    named_whole c.args.word.now
    (at_least c.len.result _ c.if-len-lt6.false c.len.ensures.value)
    (at_most c.len-2.result _ c.if-len-gt7.false c.len-2.ensures.value)
    (subst (λ w. pointwise nat_eq whole (drop (length w - 4) w) ≡ true)
    (c.as_bytes.ensures.value ∙ c.as_str.ensures.value) (sym c.ends_with.ensures.value ∙ h))
