use Rattle.std.proofs.Common.{rules, arith, ◌≡◌, ◌<◌, ℕ, length, get_or, sym, ◌∙◌}
use Rattle.iloc_tinystr.proofs.TinyTextLemmas.{only_text}
use Rattle.iloc_subtags.proofs.PieceLemmas.{size-le}
use Rattle.iloc_subtags.proofs.RawLemmas.{none_reads_raw, reads_number}
use Rattle.iloc_subtags.proofs.word_of.WordOf.try_from_raw.Goals as goal

pub number_of_raw-packed-requires : goal.number_of_raw-packed-requires
number_of_raw-packed-requires g c = (search rules, size-le g.K.WordKind.kind g.row.N g.met.K.WordKind.size)

pub returns-then-number-packed : goal.returns-then-number-packed
returns-then-number-packed g c =
    let k = g.met.K.WordKind in
    none_reads_raw 8 g.row.N g.K.WordKind.kind k.size k.fits g.K.WordKind.refusal _ c.args.raw
    c.refusal.ensures
    (λ text tiny e.
    let read = rw c.number_of_raw-packed.ensures at c.of_number-piece.ensures in
    let t = only_text g.row.N c.args.raw c.of_number-piece.result text tiny e read in
    absurd (grind (arith, t.1, c.if-number-packed.true)))

pub returns : goal.returns
returns g c =
    let k = g.met.K.WordKind in
    let long : length c.args.raw ≡ g.row.N = search rules in
    let fit : (i : ℕ) → get_or c.args.raw i 0 < 256 = search rules in
    let same = sym c.number.ensures ∙ c.if-number-packed.false ∙ c.number_of_raw-packed.ensures in
    let read = rw c.number_of_raw-packed.ensures at c.of_number-piece.ensures in
    reads_number g.row.N g.K.WordKind.kind k.size k.fits g.K.WordKind.refusal c.of_number-piece.result
    c.args.raw
    long fit same read c.from_normal.result c.from_normal.ensures
