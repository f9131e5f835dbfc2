use Rattle.std.proofs.Common.{◌≡◌, ◌∷◌, ◌++◌, [], length, take, drop, sym, ap, ◌∙◌, arith}
use Rattle.std.proofs.lemmas.Str.{IsUtf8-had}
use Rattle.std.proofs.lemmas.List.{length-take-le, take-append-drop}
use Rattle.iloc_writeable.specs.Pieces.{hyphened}
use Rattle.iloc_writeable.proofs.PiecesLemmas.{hyphened-one}
use Rattle.iloc_writeable.proofs.ShortLemmas.{ascii_text, hyphen_text}
use Rattle.iloc_writeable.proofs.KeptLemmas.{kept_piece, kept_utf8, hyphen_front, whole_front}
use Rattle.iloc_writeable.proofs.short_text.ShortTextSink.write_short_piece.Goals as goal

pub invariant_of-self : goal.invariant_of-self
invariant_of-self c =
    let s = c.args.self.now in
    let n = c.args.len in
    let p = take n c.args.padded in
    let size : length p ≡ n = length-take-le n c.args.padded (omega arith) in
    record {
      in_range = omega arith;
      utf8 = ∣ kept_utf8 s.len _ _ s.bytes c.copy_from_slice.new.self p (omega arith) (omega arith)
          (whole_front n c.args.padded _ size c.copy_from_slice.ensures.after) (omega arith)
          (IsUtf8-had _ s.utf8) (ascii_text p c.requires.ascii) ∣₁;
    }

pub invariant_of-self-2 : goal.invariant_of-self-2
invariant_of-self-2 c =
    let s = c.args.self.now in
    let n = c.args.len in
    let p = take n c.args.padded in
    let size : length p ≡ n = length-take-le n c.args.padded (omega arith) in
    let copied = c.copy_from_slice-2.ensures.after ∙ c.after_hyphen.ensures
    ∙ ap (λ l. 45 ∷ l) (sym (take-append-drop n c.args.padded)) in
    record {
      in_range = omega arith;
      utf8 = ∣ kept_utf8 s.len _ _ s.bytes c.copy_from_slice-2.new.self (45 ∷ p) (omega arith) (omega arith)
          (hyphen_front p (drop n c.args.padded) _ copied) (omega arith) (IsUtf8-had _ s.utf8)
          (hyphen_text p c.requires.ascii) ∣₁;
    }

pub returns : goal.returns
returns c =
    let s = c.args.self.now in
    let n = c.args.len in
    let p = take n c.args.padded in
    let size : length p ≡ n = length-take-le n c.args.padded (omega arith) in
    let copied = c.copy_from_slice-2.ensures.after ∙ c.after_hyphen.ensures
    ∙ ap (λ l. 45 ∷ l) (sym (take-append-drop n c.args.padded)) in
    kept_piece s.len _ _ s.bytes c.copy_from_slice-2.new.self (45 ∷ p) (omega arith) (omega arith)
    (hyphen_front p (drop n c.args.padded) _ copied) (omega arith)
    ∙ ap (λ l. take s.len s.bytes ++ l)
    (hyphened-one p ∙ ap (λ b. hyphened b (p ∷ [])) (sym c.if-first.false))
