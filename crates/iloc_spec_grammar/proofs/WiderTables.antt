-- Over a wider table each word, identifier and text keeps its meaning.
use Rattle.std.proofs.Common.{arith, ◌≡◌, ℕ, Bool, true, List}
use Rattle.std.proofs.lemmas.Bool.{and_parts, and_from}
use Rattle.iloc_spec_grammar.specs.Syntax.{Text, Language, two_or_three, languages, is_word, IsWord, SpelledIdentifier, Identifier, IsIdentifier}
use Rattle.iloc_spec_grammar.specs.Tree.{Extension, transform, IsExtension}
use Rattle.iloc_spec_grammar.specs.Meaning.{Locale, IdentifierMeans, Means}
use Rattle.iloc_spec_grammar.specs.Values.{IsIdentifierValue, IsValue}
use Rattle.iloc_spec_grammar.proofs.RawLaws.{narrow_in_wide}

module _ {T U : ℕ → Bool} (wider : (n : ℕ) → T n ≡ true → U n ≡ true) where
  pub language : (p : Text) → IsWord (Language T) p → IsWord (Language U) p
  unfolding is_word
  language p h = grind (arith, and_parts, and_from)

  pub identifier : (i : SpelledIdentifier) → IsIdentifier T i → IsIdentifier U i
  identifier i h = search language

  pub extension : (c : ℕ) (e : Extension) → IsExtension T c e → IsExtension U c e
  extension c (transform m) h = grind (arith, identifier)
  extension c _ h = h

  pub identifier_value : (i : Identifier) → IsIdentifierValue T i → IsIdentifierValue U i
  identifier_value i h = search language

  pub value_wider : (M : Locale) → IsValue T M → IsValue U M
  value_wider M h = grind (arith, identifier_value)

  pub identifier_means_wider : (ps : List Text) (i : Identifier) → IdentifierMeans T ps i →
      IdentifierMeans U ps i
  identifier_means_wider ps i m = search identifier

  pub means_wider : (t : Text) (M : Locale) → Means T t M → Means U t M
  means_wider t M m = grind (arith, identifier_means_wider, identifier)

pub means_ours : (t : Text) (M : Locale) → Means two_or_three t M → Means languages t M
means_ours t M m = means_wider narrow_in_wide t M m
