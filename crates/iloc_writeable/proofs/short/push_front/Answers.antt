use Rattle.std.proofs.Common.{◌≡◌, ◌+◌, ◌≤◌, ◌++◌, take, ap, sym, ◌∙◌, arith, length, length-append}
use Rattle.std.proofs.lemmas.List.{length-take-le}
use Rattle.std.specs.String.{string_bytes}
use Rattle.iloc_writeable.proofs.ShortLemmas.{ascii_text, front_ends, front_taken}
use Rattle.iloc_writeable.proofs.short.push_front.Goals as goal

pub from_utf8_unchecked-requires : goal.from_utf8_unchecked-requires
from_utf8_unchecked-requires g c = ascii_text c.args.all.now c.requires.ascii

pub truncate-requires : goal.truncate-requires
truncate-requires g c within =
    let front = string_bytes c.args.text.now in
    let piece = c.args.all.now in
    let n = length c.as_bytes-before.result.now in
    let e : string_bytes c.push_str.new.self ≡ front ++ piece =
    c.in-Ok.ensures.bytes ∙ ap (λ l. front ++ l) c.from_utf8_unchecked.ensures in
    let size : length front ≡ n = ap length (sym c.as_bytes-before.ensures.value) in
    let l : length (front ++ piece) ≡ length front + length piece = length-append front piece in
    let room : n + c.args.count ≤ length (front ++ piece) = omega arith in
    rw e (
      room,
      λ _ inside high. absurd (omega (
        arith,
        high,
        front_ends front piece n size (n + c.args.count) (omega arith) c.requires.ascii inside,
      )),
    )

pub returns : goal.returns
returns g c =
    let front = string_bytes c.args.text.now in
    let piece = c.args.all.now in
    let n = length c.as_bytes-before.result.now in
    let e : string_bytes c.push_str.new.self ≡ front ++ piece =
    c.in-Ok.ensures.bytes ∙ ap (λ l. front ++ l) c.from_utf8_unchecked.ensures in
    let size : length front ≡ n = ap length (sym c.as_bytes-before.ensures.value) in
    let whole : length c.from_utf8_unchecked.result.now ≡ length piece =
    ap length c.from_utf8_unchecked.ensures in
    let taken : length (take c.args.count piece) ≡ c.args.count =
    length-take-le c.args.count piece (omega arith) in
    record {
      bytes = c.truncate.ensures.bytes ∙ ap (λ l. take (n + c.args.count) l) e
          ∙ front_taken front piece n size c.args.count;
      len = omega (arith, taken, whole, c.in-Ok.ensures.len, c.truncate.ensures.len);
      capacity = omega arith;
    }
