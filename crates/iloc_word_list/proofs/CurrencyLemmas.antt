-- The word of a currency is a subtag other than `true`.
use Rattle.std.proofs.Common.{◌≡◌, ◌&&◌, List, [], ◌∷◌, length, true, false, true≢false, cond, not, refl, sym, ap, ap₂, subst, codes, arith}
use Rattle.std.proofs.lemmas.Bool.{false_from_ne_true}
use Rattle.std.proofs.lemmas.Bool.Decides.{nat_tests}
use Rattle.std.specs.Int.{is_in_range}
use Rattle.std.specs.Cmp.{Equal-is}
use Rattle.iloc_spec_grammar.specs.Syntax.{Text, CurrencyType, Subtag, is_word, IsWord, is_true}
use Rattle.iloc_spec_grammar.specs.Values.{IsNormal}
use Rattle.iloc_spec_grammar.proofs.WordsLaws.{word_letters_or_digits}
use Rattle.iloc_spec_grammar.proofs.MapLaws.{same_words}
use Rattle.iloc_shortvec.specs.ShortList.{only_of}
use Rattle.iloc_word_list.specs.Values.{without_true}
use Rattle.iloc_spec_parts.specs.SingleValues.{single}

pub only_is_single : (ws : List Text) → only_of ws ≡ single ws
only_is_single [] = refl
only_is_single (w ∷ []) = refl
only_is_single (v ∷ w ∷ ws) = refl

length-currency : (w : Text) → IsWord CurrencyType w → length w ≡ 3
unfolding is_word
length-currency w h = grind (arith, nat_tests)

currency_is_subtag : (w : Text) → IsWord CurrencyType w → IsWord Subtag w
unfolding is_word
currency_is_subtag w h =
    ap₂ ◌&&◌ (ap (is_in_range 2 8) (length-currency w h)) (word_letters_or_digits CurrencyType w h)

-- `true` is none, having four letters
currency_not_true : (w : Text) → IsWord CurrencyType w → is_true w ≡ false
unfolding is_word is_true
currency_not_true w h =
    false_from_ne_true (is_true w) (λ t. ne_true (subst (IsWord CurrencyType) (sym (true_word t)) h))
  where
    ne_true : IsWord CurrencyType (codes "true") → ⊥
    ne_true e = true≢false (sym e)

    true_word : is_true w ≡ true → codes "true" ≡ w
    true_word t = same_words (codes "true") w ((Equal-is _).0 t)

-- so it stands in a value
pub currency_normal : (w : Text) → IsNormal CurrencyType w → IsNormal Subtag w
currency_normal w h = (currency_is_subtag w h.0, h.1)

pub currency_alone : (w : Text) → IsNormal CurrencyType w → without_true (w ∷ []) ≡ w ∷ []
currency_alone w h = ap (λ b. cond (not b) (w ∷ []) []) (currency_not_true w h.0)
