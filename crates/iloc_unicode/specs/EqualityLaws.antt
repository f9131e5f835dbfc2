-- The equality tests of keywords and of the whole extension find exactly equal values equal.
use Rattle.std.proofs.Common.{ap}
use Rattle.std.proofs.lemmas.Bool.{and_parts, and_from}
use Rattle.iloc_word_list.specs.Equality.{IsExactTest}
use Rattle.iloc_word_list.specs.EqualityLaws.{word_exact, words_exact, lists_exact}
use Rattle.iloc_unicode.specs.Equality.{pair_eq, fields_eq, unicode_eq}

pair_exact : IsExactTest pair_eq
pair_exact x y = (
  λ h. let parts = and_parts _ _ h in
      λ i. ((word_exact x.0 y.0).0 parts.0 i, (words_exact x.1 y.1).0 parts.1 i),
  λ e. and_from _ _
      ((word_exact x.0 y.0).1 (ap (λ p. p.0) e)) ((words_exact x.1 y.1).1 (ap (λ p. p.1) e)),
)

pub fields_exact : IsExactTest fields_eq
fields_exact = lists_exact pair_eq pair_exact

pub unicode_exact : IsExactTest unicode_eq
unicode_exact u v = (
  λ h. let parts = and_parts _ _ h in
      λ i. record {
        attributes = (words_exact u.attributes v.attributes).0 parts.1 i;
        keywords = (fields_exact u.keywords v.keywords).0 parts.0 i;
      },
  λ e. and_from _ _ ((fields_exact u.keywords v.keywords).1 (ap (λ w. w.keywords) e))
      ((words_exact u.attributes v.attributes).1 (ap (λ w. w.attributes) e)),
)
