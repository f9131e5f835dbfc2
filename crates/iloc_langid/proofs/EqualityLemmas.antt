-- Identifiers, as the tests of their parts tell them equal.
use Rattle.std.proofs.Common.{◌≡◌, true, ◌&&◌, List, [], ◌∷◌, refl, sym, nat_eq, arith}
use Rattle.std.proofs.lemmas.Bool.{and_parts, and_from}
use Rattle.std.proofs.lemmas.Cmp.{nat_list_eq_equiv}
use Rattle.std.specs.Cmp.Lexicographic.{pointwise, same_text}
use Rattle.std.specs.Option.{option_eq}
use Rattle.iloc_spec_grammar.specs.Syntax.{Text, Identifier}
use Rattle.iloc_langid.specs.declared.identifier.LanguageIdentifier.{LanguageIdentifier}
use Rattle.iloc_langid.specs.Reads.{value_of}
use Rattle.iloc_langid.proofs.AgreeingLemmas.{same_option}

pub same_words : (vs ws : List Text) → pointwise (pointwise nat_eq) vs ws ≡ true → vs ≡ ws
same_words [] [] h = refl
same_words [] (w ∷ ws) h = cc
same_words (v ∷ vs) [] h = cc
same_words (v ∷ vs) (w ∷ ws) h =
    let parts = and_parts _ _ h in λ i. same_text v w (sym parts.0) i ∷ same_words vs ws parts.1 i

words_themselves : (ws : List Text) → pointwise (pointwise nat_eq) ws ws ≡ true
words_themselves [] = refl
words_themselves (w ∷ ws) = and_from _ _ (nat_list_eq_equiv.refl w) (words_themselves ws)

pub equal_words : (vs ws : List Text) → vs ≡ ws → pointwise (pointwise nat_eq) vs ws ≡ true
equal_words vs ws e = grind (arith, words_themselves)

-- each part is told equal
abbrev AreEqual : Identifier → Identifier → Type 0
AreEqual v w = (pointwise nat_eq v.language w.language && (option_eq (pointwise nat_eq) v.script w.script
    && (option_eq (pointwise nat_eq) v.region w.region
    && pointwise (pointwise nat_eq) v.variants w.variants)))
    ≡ true

pub same_value : (i j : LanguageIdentifier) → AreEqual (value_of i) (value_of j) → value_of i ≡ value_of j
same_value i j h =
    let language = and_parts _ _ h in
    let script = and_parts _ _ language.1 in
    let region = and_parts _ _ script.1 in
    λ k. record {
      language = same_text i.language j.language (sym language.0) k;
      script = same_option i.script j.script script.0 k;
      region = same_option i.region j.region region.0 k;
      variants = same_words i.variants j.variants region.1 k;
    }

pub equal_values : (i j : LanguageIdentifier) → value_of i ≡ value_of j → AreEqual (value_of i) (value_of j)
equal_values i j e = grind (arith, and_from, nat_list_eq_equiv, words_themselves)
