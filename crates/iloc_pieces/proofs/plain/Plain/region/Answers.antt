use Rattle.std.proofs.Common.{◌≡◌, ℕ, ◌+◌, ◌-◌, ◌<◌, get_or, refl, ap, sym, subst, ◌∙◌, length, arith}
use Rattle.iloc_pieces.proofs.PieceLemmas.{no_region, region_two, region_three}
use Rattle.iloc_pieces.proofs.plain.Plain.region.Goals as goal

pub returns-then-self-eq0 : goal.returns-then-self-eq0
returns-then-self-eq0 c = no_region c.args.self.now c.requires.words c.requires.value c.if-self-eq0.true

pub returns-then-self-eq2 : goal.returns-then-self-eq2
returns-then-self-eq2 c =
    let p = c.args.self.now in
    let b = c.as_array-bytes.result.now in
    let at = p.len - p.region in
    let small : (i : ℕ) → get_or b i 0 < 256 =
    λ i. subst (λ l. get_or l i 0 < 256) (sym c.as_array-bytes.ensures) (c.requires.words.bytes i) in
    region_two p c.requires.words c.requires.value _ at b c.of_number.result c.as_array-bytes.ensures
    (ap length c.as_array-bytes.ensures ∙ c.requires.words.wide) refl (omega (arith, small (at + 1)))
    c.if-self-eq2.true c.of_number.ensures

pub returns : goal.returns
returns c =
    let p = c.args.self.now in
    let b = c.as_array-bytes.result.now in
    let at = p.len - p.region in
    let small : (i : ℕ) → get_or b i 0 < 256 =
    λ i. subst (λ l. get_or l i 0 < 256) (sym c.as_array-bytes.ensures) (c.requires.words.bytes i) in
    let three : p.region ≡ 3 = omega
    (arith, c.requires.words.region, c.requires.words.no_letter, c.if-self-eq0.false, c.if-self-eq2.false) in
    region_three p c.requires.words c.requires.value _ at b c.of_number-2.result c.as_array-bytes.ensures
    (ap length c.as_array-bytes.ensures ∙ c.requires.words.wide) refl
    (omega (arith, small (at + 1), small (at + 2))) three c.of_number-2.ensures
