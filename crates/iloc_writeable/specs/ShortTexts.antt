-- A text that is kept in place, as a sink.
use Rattle.std.specs.Prelude.{◌≡◌, ℕ, List, [], ◌++◌, take}
use Rattle.std.proofs.Common.{sym, ◌∙◌, ap, append_assoc, append-nil}
use Rattle.iloc_writeable.specs.declared.short_text.ShortText.{ShortText}

-- what was written
abbrev pub text_kept : ShortText → List ℕ
text_kept s = take s.len s.bytes

-- the text was added
abbrev pub Grown : ShortText → List ℕ → ShortText → Type 0
Grown a text b = text_kept b ≡ text_kept a ++ text

pub grown_nothing : (s : ShortText) → Grown s [] s
grown_nothing s = sym (append-nil (text_kept s))

pub grown_both : (a b c : ShortText) (s t : List ℕ) → Grown a s b → Grown b t c → Grown a (s ++ t) c
grown_both a b c s t p q = q ∙ ap (λ x. x ++ t) p ∙ append_assoc (text_kept a) s t
