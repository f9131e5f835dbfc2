-- Normal texts are ASCII.
use Rattle.std.proofs.Common.{◌≡◌, ◌≢◌, ℕ, ◌<◌, true, List, [], ◌∷◌, refl, sym, subst, arith}
use Rattle.std.specs.Char.{is_ascii_alphanumeric, to_ascii_lowercase}
use Rattle.std.specs.List.{AllByRecursion, list_all}
use Rattle.std.specs.Str.{IsUtf8}
use Rattle.std.specs.Cmp.{first_so, second_so}
use Rattle.std.proofs.lemmas.Bool.Decides.{nat_tests}
use Rattle.std.proofs.lemmas.List.Elements.{All-from_recursion}
use Rattle.std.proofs.lemmas.Str.{IsUtf8-from_ascii}
use Rattle.std.proofs.lemmas.Str.Ascii.{IsAscii-from_all}
use Rattle.iloc_spec_grammar.specs.Syntax.{Text, pieces, join, Kind, IsWord, languages, Identifier}
use Rattle.iloc_spec_grammar.specs.Meaning as grammar
use Rattle.iloc_spec_grammar.specs.Meaning.{Means}
use Rattle.iloc_spec_grammar.specs.Values.{IsIdentifierValue, identifier_text, text}
use Rattle.iloc_spec_grammar.specs.Tree.{spelled_identifier}
use Rattle.iloc_spec_grammar.proofs.WordsLaws.{word_letters_or_digits}
use Rattle.iloc_spec_grammar.proofs.ValuesLaws.{value_words}
use Rattle.iloc_spec_grammar.proofs.ReadBack.{all_append, identifier_each, printed_each}
use Rattle.iloc_spec_grammar.proofs.FaultLaws.{letter}
use Rattle.iloc_spec_grammar.proofs.IdentifierTexts.{identifier_means_value}
use Rattle.iloc_spec_grammar.proofs.Corollaries.{means_a_value, means_tests}
use Rattle.iloc_spec_grammar.proofs.SameText.{text_is}
use Rattle.iloc_normalize.specs.Modes.{IsNormalText}
use Rattle.iloc_normalize.specs.declared.Mode.{Mode}
use Rattle.iloc_normalize.specs.declared.Mode.TheVariants.{Langid, Locale, Data}

abbrev AreAscii : Text → Type 0
AreAscii = AllByRecursion (λ b. b < 128)

ascii_byte : (c : ℕ) → is_ascii_alphanumeric c ≡ true → c < 128
ascii_byte c h = grind (arith, nat_tests)

ascii_bytes : (p : Text) → list_all is_ascii_alphanumeric p ≡ true → AreAscii p
ascii_bytes [] h = tt
ascii_bytes (c ∷ p) h = (ascii_byte c (first_so _ _ h), ascii_bytes p (second_so _ _ h))

ascii_word : (k : Kind) (p : Text) → IsWord k p → AreAscii p
ascii_word k p h = ascii_bytes p (word_letters_or_digits k p h)

ascii_singleton : (c : ℕ) → is_ascii_alphanumeric (to_ascii_lowercase c) ≡ true → AreAscii (c ∷ [])
ascii_singleton c h = (ascii_byte c (letter c h), tt)

ascii_join : (p : Text) (ps : List Text) → AllByRecursion AreAscii (p ∷ ps) → AreAscii (join (p ∷ ps))
unfolding join
ascii_join p [] h = h.0
ascii_join p (q ∷ ps) h = grind (arith, all_append, ascii_join q ps h.1)

utf8_join : (p : Text) (ps : List Text) → AllByRecursion AreAscii (p ∷ ps) → IsUtf8 (join (p ∷ ps))
utf8_join p ps h =
    IsUtf8-from_ascii _ (IsAscii-from_all _ (All-from_recursion (λ b. b < 128) _ (ascii_join p ps h)))

pub identifier_utf8 : (i : Identifier) → IsIdentifierValue languages i → IsUtf8 (identifier_text i)
unfolding identifier_text
identifier_utf8 i h = utf8_join i.language _
    (identifier_each AreAscii ascii_word ascii_singleton (spelled_identifier i) (value_words h))

locale_utf8 : (t : Text) (M : grammar.Locale) → Means languages t M → IsUtf8 (text M)
locale_utf8 t M m =
    subst IsUtf8 (sym (text_is M))
    (utf8_join M.id.language _
    (printed_each M (means_a_value t M m) (means_tests t M m) AreAscii ascii_word ascii_singleton))

-- the normal text of an identifier or of a locale is UTF-8
pub normal_utf8 : (mode : Mode) → mode ≢ Data → (t u : Text) → IsNormalText languages mode t u → IsUtf8 u
normal_utf8 Langid other t u (i, m, e) =
    subst IsUtf8 (sym e) (identifier_utf8 i (identifier_means_value (pieces t) i m))
normal_utf8 Locale other t u (M, m, e) = subst IsUtf8 (sym e) (locale_utf8 t M m)
normal_utf8 Data other t u h = absurd (other refl)
