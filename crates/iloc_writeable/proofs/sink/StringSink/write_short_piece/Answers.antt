use Rattle.std.proofs.Common.{◌≡◌, ℕ, List, ◌∷◌, [], take, ap, sym, subst, ◌∙◌, arith}
use Rattle.iloc_writeable.specs.Pieces.{hyphened}
use Rattle.iloc_writeable.specs.StringSink.{Appended, Refused}
use Rattle.iloc_writeable.specs.Writing.{Writes}
use Rattle.iloc_writeable.proofs.PiecesLemmas.{hyphened-one}
use Rattle.iloc_writeable.proofs.ShortLemmas.{low_ascii, low_same, hyphen_ascii, from_start}
use Rattle.iloc_writeable.proofs.sink.StringSink.write_short_piece.Goals as goal

pub returns-then-capacity-len-lt9 : goal.returns-then-capacity-len-lt9
returns-then-capacity-len-lt9 g c =
    let n = c.args.len in
    let same : take n c.low_bytes-ascii.result ≡ take n c.args.padded =
    ap (λ l. take n l) c.low_bytes-ascii.ensures ∙ low_same n c.args.padded c.requires.ascii in
    let P : List ℕ → Type 0 =
    λ t. Writes Appended Refused c.args.self.now t c.write_str.new.self c.write_str.result in
    subst P (c.hyphened_text.ensures ∙ ap (λ p. hyphened c.args.first (p ∷ [])) same) c.write_str.ensures

pub push_front-requires : goal.push_front-requires
push_front-requires g c =
    (omega arith, (omega arith, (omega arith, rw c.low_bytes-ascii.ensures (low_ascii c.args.padded))))

pub returns-then-first : goal.returns-then-first
returns-then-first g c =
    let n = c.args.len in
    let same : take n c.low_bytes-ascii.result ≡ take n c.args.padded =
    ap (λ l. take n l) c.low_bytes-ascii.ensures ∙ low_same n c.args.padded c.requires.ascii in
    let P : List ℕ → Type 0 = λ t. Appended c.args.self.now t c.push_front.new.text in
    subst P (same ∙ ap (λ b. hyphened b (take n c.args.padded ∷ [])) (sym c.if-first.true))
    c.push_front.ensures

pub push_front-requires-2 : goal.push_front-requires-2
push_front-requires-2 g c = (
  omega arith,
  (
    omega arith,
    (
      omega arith,
      rw (c.after_hyphen-all.ensures, c.low_bytes-ascii.ensures)
          (hyphen_ascii _ (low_ascii c.args.padded)),
    ),
  ),
)

pub returns : goal.returns
returns g c =
    let n = c.args.len in
    let p = take n c.args.padded in
    let low = c.low_bytes-ascii.result in
    let same : take n low ≡ p =
    ap (λ l. take n l) c.low_bytes-ascii.ensures ∙ low_same n c.args.padded c.requires.ascii in
    let P : List ℕ → Type 0 = λ t. Appended c.args.self.now t c.push_front-2.new.text in
    subst P (from_start low c.after_hyphen-all.result n c.after_hyphen-all.ensures ∙ ap (λ l. 45 ∷ l) same
    ∙ hyphened-one p ∙ ap (λ b. hyphened b (p ∷ [])) (sym c.if-first.false)) c.push_front-2.ensures
