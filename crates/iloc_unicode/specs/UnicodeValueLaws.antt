-- The equality test of what they stand for finds exactly equal values equal.
use Rattle.std.proofs.Common.{ap}
use Rattle.iloc_spec_grammar.specs.Syntax as written
use Rattle.iloc_word_list.specs.Equality.{IsExactTest}
use Rattle.iloc_unicode.specs.EqualityLaws.{unicode_exact}
use Rattle.iloc_unicode.specs.UnicodeValue.{value_of, shown_eq}

pub shown_exact : IsExactTest shown_eq
shown_exact u v = (
  λ h. ap (λ (w : written.Unicode). record { keywords = w.keywords; attributes = w.attributes })
      ((unicode_exact (value_of u) (value_of v)).0 h),
  λ e.
      (unicode_exact (value_of u) (value_of v)).1 (ap value_of e),
)
