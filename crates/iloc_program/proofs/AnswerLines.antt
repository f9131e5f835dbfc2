-- An answer is one line. No normal text has a `!`.
use Rattle.std.proofs.Common.{◌≡◌, ◌≢◌, inl, inr, ℕ, true, not, ◌==◌, All, List, [], ◌∷◌, map, refl, sym, ap, ◌∙◌, subst, arith}
use Rattle.std.specs.Char.{is_ascii_alphanumeric, to_ascii_lowercase}
use Rattle.std.specs.List.{AllByRecursion, list_all}
use Rattle.std.specs.Cmp.{first_so, second_so}
use Rattle.std.proofs.lemmas.Bool.Decides.{nat_tests}
use Rattle.std.proofs.lemmas.List.Elements.{All-from_recursion}
use Rattle.iloc_spec_grammar.specs.Syntax.{Text, pieces, join, Kind, IsWord, languages, Identifier}
use Rattle.iloc_spec_grammar.specs.Meaning as grammar
use Rattle.iloc_spec_grammar.specs.Meaning.{Means, Fault, InvalidLanguage, InvalidSubtag, InvalidExtension, DuplicatedExtension}
use Rattle.iloc_spec_grammar.specs.Values.{IsIdentifierValue, identifier_text, text}
use Rattle.iloc_spec_grammar.specs.Tree.{spelled_identifier}
use Rattle.iloc_spec_grammar.proofs.RawLaws.{languages_table}
use Rattle.iloc_spec_grammar.proofs.WordsLaws.{word_letters_or_digits}
use Rattle.iloc_spec_grammar.proofs.ValuesLaws.{all_weaker, value_words}
use Rattle.iloc_spec_grammar.proofs.ReadBack.{all_append, identifier_each, printed_each}
use Rattle.iloc_spec_grammar.proofs.FaultLaws.{letter}
use Rattle.iloc_spec_grammar.proofs.IdentifierTexts.{identifier_means_value}
use Rattle.iloc_spec_grammar.proofs.Corollaries.{means_a_value, means_tests, reads_back}
use Rattle.iloc_spec_grammar.proofs.SameText.{text_is}
use Rattle.iloc_spec_parts.specs.DataLocales.{DataLocale, DataMeans, data_text, locale_of_data}
use Rattle.iloc_spec_parts.proofs.DataLaws.{read_is_data_locale, text_of_data, locale_of_data_is_value, locale_of_data_is_well_formed}
use Rattle.iloc_normalize.specs.Modes.{IsNormalText}
use Rattle.iloc_normalize.specs.declared.Mode.{Mode}
use Rattle.iloc_normalize.specs.declared.Mode.TheVariants.{Langid, Locale, Data}
use Rattle.iloc_program.specs.Answers.{IsAnswer, line_answer, output, refusal}
use Rattle.iloc_program.specs.Lines.{IsOneLine, lines_of}
use Rattle.iloc_program.proofs.LineLaws.{reads_ended}
use Rattle.iloc_program.proofs.OutputLaws.{is_answer, replies}

-- neither a newline nor `!`
abbrev IsPlainByte : ℕ → Type 0
IsPlainByte b = (b ≢ 10) × (b ≢ 33)

abbrev ArePlain : Text → Type 0
ArePlain = AllByRecursion IsPlainByte

no_newline : (c : ℕ) → is_ascii_alphanumeric c ≡ true → c ≢ 10
no_newline c h e = grind (arith, nat_tests)

no_mark : (c : ℕ) → is_ascii_alphanumeric c ≡ true → c ≢ 33
no_mark c h e = grind (arith, nat_tests)

plain_byte : (c : ℕ) → is_ascii_alphanumeric c ≡ true → IsPlainByte c
plain_byte c h = (no_newline c h, no_mark c h)

plain_bytes : (p : Text) → list_all is_ascii_alphanumeric p ≡ true → ArePlain p
plain_bytes [] h = tt
plain_bytes (c ∷ p) h = (plain_byte c (first_so _ _ h), plain_bytes p (second_so _ _ h))

plain_word : (k : Kind) (p : Text) → IsWord k p → ArePlain p
plain_word k p h = plain_bytes p (word_letters_or_digits k p h)

plain_singleton : (c : ℕ) → is_ascii_alphanumeric (to_ascii_lowercase c) ≡ true → ArePlain (c ∷ [])
plain_singleton c h = (plain_byte c (letter c h), tt)

plain_hyphen : IsPlainByte 45
plain_hyphen = ((λ (e : 45 ≡ 10). omega (arith, e)), (λ (e : 45 ≡ 33). omega (arith, e)))

plain_join : (p : Text) (ps : List Text) → AllByRecursion ArePlain (p ∷ ps) → ArePlain (join (p ∷ ps))
unfolding join
plain_join p [] h = h.0
plain_join p (q ∷ ps) h =
    all_append IsPlainByte p (45 ∷ join (q ∷ ps)) h.0 (plain_hyphen, plain_join q ps h.1)

identifier_plain : (i : Identifier) → IsIdentifierValue languages i → ArePlain (identifier_text i)
unfolding identifier_text
identifier_plain i h = plain_join i.language _
    (identifier_each ArePlain plain_word plain_singleton (spelled_identifier i) (value_words h))

locale_plain : (t : Text) (M : grammar.Locale) → Means languages t M → ArePlain (text M)
locale_plain t M m =
    subst ArePlain (sym (text_is M))
    (plain_join M.id.language _
    (printed_each M (means_a_value t M m) (means_tests t M m) ArePlain plain_word plain_singleton))

data_plain : (t : Text) (d : DataLocale) → DataMeans languages t d → ArePlain (data_text d)
data_plain t d m =
    let M = locale_of_data d in
    let v = read_is_data_locale t d m in
    subst ArePlain (text_of_data d)
    (locale_plain (text M) M (reads_back languages_table M (locale_of_data_is_value d v)
    (locale_of_data_is_well_formed languages_table d v)))

normal_plain : (mode : Mode) (line n : Text) → IsNormalText languages mode line n → ArePlain n
normal_plain Langid line n (i, m, e) =
    subst ArePlain (sym e) (identifier_plain i (identifier_means_value (pieces line) i m))
normal_plain Locale line n (M, m, e) = subst ArePlain (sym e) (locale_plain line M m)
normal_plain Data line n (d, m, e) = subst ArePlain (sym e) (data_plain line d m)

pub normal_no_mark : (mode : Mode) (line n : Text) → IsNormalText languages mode line n → All (λ c. c ≢ 33) n
normal_no_mark mode line n h =
    All-from_recursion (λ c. c ≢ 33) n
    (all_weaker IsPlainByte (λ c. c ≢ 33) (λ c k. k.1) n (normal_plain mode line n h))

-- by trying each byte
no_newlines : (p : Text) → list_all (λ c. not (c == 10)) p ≡ true → AllByRecursion (λ c. c ≢ 10) p
no_newlines [] h = tt
no_newlines (c ∷ p) h = (other c (first_so _ _ h), no_newlines p (second_so _ _ h))
  where
    other : (c : ℕ) → not (c == 10) ≡ true → c ≢ 10
    other c h e = grind (arith, nat_tests)

refusal_line : (f : Fault) → AllByRecursion (λ c. c ≢ 10) (refusal f)
refusal_line InvalidLanguage = no_newlines (refusal InvalidLanguage) refl
refusal_line InvalidSubtag = no_newlines (refusal InvalidSubtag) refl
refusal_line InvalidExtension = no_newlines (refusal InvalidExtension) refl
refusal_line DuplicatedExtension = no_newlines (refusal DuplicatedExtension) refl

one_line : (mode : Mode) (line a : Text) → IsAnswer languages mode line a → IsOneLine a
one_line mode line a (inl h) =
    All-from_recursion (λ c. c ≢ 10) a
    (all_weaker IsPlainByte (λ c. c ≢ 10) (λ c k. k.0) a (normal_plain mode line a h))
one_line mode line a (inr (f, h, e)) =
    All-from_recursion (λ c. c ≢ 10) a
    (subst (AllByRecursion (λ c. c ≢ 10)) (sym e) (refusal_line f))

each_line : (mode : Mode) (lines : List Text) →
    AllByRecursion IsOneLine (map (line_answer languages mode) lines)
each_line mode [] = tt
each_line mode (line ∷ lines) =
    (one_line mode line _ (is_answer languages_table mode line), each_line mode lines)

pub answers_back : (mode : Mode) (input : Text) →
    lines_of (output languages mode input) ≡ map (line_answer languages mode) (lines_of input)
answers_back mode input =
    ap lines_of (replies languages_table mode (lines_of input))
    ∙ reads_ended (map (line_answer languages mode) (lines_of input)) (each_line mode (lines_of input))
