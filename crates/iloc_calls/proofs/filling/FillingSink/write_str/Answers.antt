-- The bytes that were copied stand behind those before, and the rest is as it was.
use Rattle.std.proofs.Common.{◌≡◌, ◌+◌, ◌-◌, ◌≤◌, ◌++◌, length, take, drop, refl, ap, ◌∙◌, arith, length-take-le, length-drop}
use Rattle.std.proofs.lemmas.Slice.{take-put_mid, drop-put_mid}
use borrow.Rule.Slice.PartMut.{same_len_mid}
use Rattle.iloc_calls.proofs.filling.FillingSink.write_str.Goals as goal

pub returns-in-Some : goal.returns-in-Some
returns-in-Some c =
    let old = c.args.self.now.buffer.now in
    let at = c.args.self.now.count in
    let end = c.in-Some.end in
    let bytes = c.copy_all.new.to in
    let copied : bytes ≡ c.args.text.now = c.copy_all.ensures ∙ c.as_bytes-bytes.ensures.value in
    let long = ap length copied in
    let fits : end ≤ length old = omega arith in
    let sum : end ≡ at + length c.args.text.now = omega arith in
    let room : at + (end - at) ≤ length old = omega arith in
    record {
      same_buffer = refl;
      same_length = same_len_mid at (end - at) old bytes
          (omega (arith, length-take-le (end - at) (drop at old) (omega (arith, length-drop at old)), long));
      counted = sum;
      front = take-put_mid at (end - at) old bytes end (omega arith) (omega arith)
          ∙ ap (λ x. take at old ++ x) copied;
      rest = drop-put_mid at (end - at) old bytes end (omega arith) (omega arith) (omega arith);
    }
