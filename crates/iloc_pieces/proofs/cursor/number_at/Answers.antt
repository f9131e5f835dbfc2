use Rattle.std.proofs.Common.{◌≡◌, ◌≤◌, ◌-◌, length, take, drop, sym, ap, subst, ◌∙◌, arith}
use Rattle.std.proofs.lemmas.List.{length-drop, length-take-le, take-take, take_all}
use Rattle.iloc_spec_grammar.specs.Syntax.{Text}
use Rattle.iloc_pieces.proofs.WordNumbers.{Bytes, bytes_take, bytes_drop, highest_first, number_is}
use Rattle.iloc_pieces.proofs.cursor.number_at.Goals as goal

pub returns-in-Some : goal.returns-in-Some
returns-in-Some c =
    let w = c.args.window.now in
    let u = drop c.args.at w in
    let n = c.args.n in
    let first = c.in-Some.ensures.cases in
    let z = c.in-Some.bytes.now in
    let all : take (length w - c.args.at) u ≡ u =
    take_all (length w - c.args.at) u (omega (arith, length-drop c.args.at w)) in
    let is : z ≡ take 8 u = first.same ∙ ap (take 8) all in
    let eight : length z ≡ 8 =
    ap length is ∙ length-take-le 8 u (omega (arith, first.enough, ap length all)) in
    let long : length (take n u) ≡ n = length-take-le n u (omega (arith, length-drop c.args.at w)) in
    let few : n ≤ 8 = omega (arith, c.requires.word.few) in
    let bytes : Bytes z =
    subst (λ (p : Text). Bytes p) (sym is)
    (bytes_take 8 u (bytes_drop c.args.at w (λ i. (c.type_inv.window i).fits))) in
    let front : take n z ≡ take n u = ap (take n) is ∙ take-take n 8 u few in
    grind (arith, number_is, highest_first)
