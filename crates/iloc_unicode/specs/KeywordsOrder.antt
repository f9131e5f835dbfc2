-- The order of keywords, which ties exactly if their equality test does.
use Rattle.std.proofs.Common.{◌≡◌, ◌&&◌, List, refl, ap₂, ◌∙◌}
use Rattle.std.specs.Ordering.{is_eq, eq_by_cmp, ordering_then}
use Rattle.std.specs.declared.cmp.Ordering.{Ordering}
use Rattle.std.specs.declared.cmp.Ordering.TheVariants.{Less, Equal, Greater}
use Rattle.std.specs.Cmp.{IsTotalOrder}
use Rattle.std.specs.Cmp.Lexicographic.{texts_ties}
use Rattle.iloc_spec_grammar.specs.Syntax.{Text, word_cmp, Fields}
use Rattle.iloc_spec_parts.specs.Orders.{pair_cmp, words_cmp, keywords_cmp}
use Rattle.iloc_spec_parts.proofs.OrderLaws.{keywords_exact}
use Rattle.iloc_shortvec.specs.ShortOrder.{short_ties}
use Rattle.iloc_word_list.specs.Equality.{words_eq}
use Rattle.iloc_unicode.specs.Equality.{pair_eq, fields_eq}

pub keywords_total : IsTotalOrder keywords_cmp
keywords_total = keywords_exact.total

words_tie : (v w : List Text) → words_eq v w ≡ eq_by_cmp words_cmp v w
words_tie v w = short_ties word_cmp texts_ties v w

both : (r s : Ordering) → (is_eq r && is_eq s) ≡ is_eq (ordering_then r s)
both Less s = refl
both Equal s = refl
both Greater s = refl

pairs_tie : (x y : Text × List Text) → pair_eq x y ≡ eq_by_cmp (pair_cmp word_cmp words_cmp) x y
pairs_tie x y = ap₂ ◌&&◌ (texts_ties x.0 y.0) (words_tie x.1 y.1)
    ∙ both (word_cmp x.0 y.0) (words_cmp x.1 y.1)

pub keywords_ties : (v w : Fields) → fields_eq v w ≡ eq_by_cmp keywords_cmp v w
keywords_ties v w = short_ties (pair_cmp word_cmp words_cmp) pairs_tie v w
