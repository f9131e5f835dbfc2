use Rattle.std.proofs.Common.{[], ◌∷◌, refl, sym, ◌∙◌, arith}
use Rattle.iloc_program.proofs.DigitLemmas.{one_digit, two_digits, range_of, packed}
use Rattle.iloc_program.proofs.quoting.short_range.Goals as goal

pub returns-then-to-lt10-clause-text : goal.returns-then-to-lt10-clause-text
returns-then-to-lt10-clause-text c =
    let m = c.args.from in
    let n = c.args.to in
    packed 6 (9 ∷ c.unit.result ∷ 46 ∷ 46 ∷ c.unit-then-to-lt10.result ∷ 9 ∷ 0 ∷ 0 ∷ [])
    c.from_le_bytes.result refl (search arith) c.from_le_bytes.ensures
    ∙ sym (range_of m n (one_digit m c.unit.result (omega arith) c.unit.ensures)
    (one_digit n c.unit-then-to-lt10.result (omega arith) c.unit-then-to-lt10.ensures))

pub returns-then-from-lt10-clause-text : goal.returns-then-from-lt10-clause-text
returns-then-from-lt10-clause-text c =
    let m = c.args.from in
    let n = c.args.to in
    let from = one_digit m c.unit-then-from-lt10.result (omega arith) c.unit-then-from-lt10.ensures in
    let to = two_digits n c.unit-tens.result c.unit-units.result (omega arith) (omega arith)
    c.unit-tens.ensures c.unit-units.ensures in
    packed 7
    (9 ∷ c.unit-then-from-lt10.result ∷ 46 ∷ 46 ∷ c.unit-tens.result ∷ c.unit-units.result ∷ 9 ∷ 0 ∷ [])
    c.from_le_bytes-then-from-lt10.result refl (search arith) c.from_le_bytes-then-from-lt10.ensures
    ∙ sym (range_of m n from to)

pub returns-clause-text : goal.returns-clause-text
returns-clause-text c =
    let m = c.args.from in
    let n = c.args.to in
    let from = two_digits m c.unit-first.result c.unit-second.result (omega arith) (omega arith)
    c.unit-first.ensures c.unit-second.ensures in
    let to = two_digits n c.unit-tens.result c.unit-units.result (omega arith) (omega arith)
    c.unit-tens.ensures c.unit-units.ensures in
    let ends = c.unit-tens.result ∷ c.unit-units.result ∷ 9 ∷ [] in
    packed 8 (9 ∷ c.unit-first.result ∷ c.unit-second.result ∷ 46 ∷ 46 ∷ ends) c.from_le_bytes-2.result
    refl (search arith) c.from_le_bytes-2.ensures
    ∙ sym (range_of m n from to)
