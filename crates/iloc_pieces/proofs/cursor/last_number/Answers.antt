use Rattle.std.proofs.Common.{◌≡◌, length, take, drop, bit_or, arith}
use Rattle.std.proofs.lemmas.List.{length-drop, length-take-le}
use Rattle.iloc_pieces.proofs.WordNumbers.{Bytes, bytes_take, bytes_drop, short_number_is}
use Rattle.iloc_pieces.proofs.cursor.last_number.Goals as goal

pub returns : goal.returns
returns c =
    let u = drop c.args.at c.args.window.now in
    let n = c.args.n in
    let long : length (take n u) ≡ n =
    length-take-le n u (omega (arith, length-drop c.args.at c.args.window.now)) in
    let bytes : Bytes (take n u) =
    bytes_take n u (bytes_drop c.args.at c.args.window.now (λ i. (c.type_inv.window i).fits)) in
    grind (arith, bit_or, short_number_is)
