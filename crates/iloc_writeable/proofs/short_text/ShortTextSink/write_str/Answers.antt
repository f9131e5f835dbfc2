use Rattle.std.proofs.Common.{sym, subst, ap, ◌∙◌, ◌+◌, ◌++◌, length, take, arith}
use Rattle.std.specs.Str.{IsUtf8}
use Rattle.std.proofs.lemmas.Str.{IsUtf8-had, IsUtf8-append}
use Rattle.std.proofs.lemmas.Slice.{take-put_mid}
use Rattle.iloc_writeable.proofs.short_text.ShortTextSink.write_str.Goals as goal

pub invariant_of-self : goal.invariant_of-self
invariant_of-self c =
    let s = c.args.self.now in
    let t = c.args.text.now in
    let copied = c.copy_from_slice.ensures.after ∙ c.as_bytes.ensures.value in
    record {
      in_range = omega arith;
      utf8 = ∣ subst IsUtf8
          (sym (take-put_mid s.len _ s.bytes c.copy_from_slice.new.self (s.len + length t)
          (omega (arith, ap length copied)) (omega arith)
          ∙ ap (λ l. take s.len s.bytes ++ l) copied))
          (IsUtf8-append _ _ (IsUtf8-had _ s.utf8) c.utf8.text) ∣₁;
    }
