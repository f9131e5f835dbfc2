-- Words that are the same, and the value of `sd`.
use Rattle.std.proofs.Common.{◌≡◌, Bool, true, false, [], ◌∷◌, refl, sym, ap, ◌∙◌, nat_eq}
use Rattle.std.specs.Prelude.{if◌then◌else◌}
use Rattle.std.specs.Cmp.Lexicographic.{pointwise, texts_ties}
use Rattle.iloc_spec_grammar.specs.Syntax.{Text, Subtag, is_same, is_true}
use Rattle.iloc_spec_grammar.specs.Values.{IsNormal}
use Rattle.iloc_word_list.specs.Values.{without_true}
use Rattle.iloc_spec_parts.specs.DataLocales.{subdivision_value}

pub words_tie : (v w : Text) → pointwise nat_eq v w ≡ is_same v w
words_tie v w = texts_ties v w

-- of a word in its normal case
by_true : (b : Bool) (w : Text) → is_true w ≡ b → without_true (w ∷ []) ≡ (if is_true w then [] else w ∷ [])
by_true true w e = rw e refl
by_true false w e = rw e refl

pub printed_value : (w : Text) → IsNormal Subtag w → without_true (w ∷ []) ≡ subdivision_value w
printed_value w h = by_true (is_true w) w refl ∙ ap (λ v. if is_true v then [] else v ∷ []) (sym h.1)
