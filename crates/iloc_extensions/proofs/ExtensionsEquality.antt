-- `==` at extensions decides whether they stand for the same.
use Rattle.std.proofs.Common.{◌≡◌, Bool, ◌&&◌, nat_eq, ap}
use Rattle.std.specs.Bool.{Decides}
use Rattle.std.proofs.lemmas.Bool.Decides.{Decides-and, Decides-like}
use lib.Pointwise.{pointwise, pointwise_decides}
use Rattle.iloc_unicode.specs.EqualityLaws.{unicode_exact}
use Rattle.iloc_unicode.specs.UnicodeValue as unicode
use Rattle.iloc_transform.specs.TransformReading as transform
use Rattle.iloc_transform.specs.declared.transform.Transform.{Transform}
use Rattle.iloc_other.proofs.EqualityLemmas.{words_decide, other_decides}
use Rattle.iloc_extensions.specs.ExtensionsValue.{value_of}
use Rattle.iloc_extensions.specs.declared.extensions.Extensions.{Extensions}

-- part by part
module _ (E : Transform → Transform → Bool) where
  pub parts_decide : ((m n : Transform) → Decides (E m n) (transform.value_of m ≡ transform.value_of n)) →
      (d e : Extensions) →
      Decides
      (unicode.shown_eq d.unicode e.unicode
      && (E d.transform e.transform
      && (pointwise (pointwise nat_eq) d.private e.private
      && pointwise (λ o p. nat_eq o.0 p.0 && pointwise (pointwise nat_eq) o.1 p.1) d.other.items
      e.other.items))) (value_of d ≡ value_of e)
  parts_decide transforms d e = Decides-like _
      (λ x k. record { unicode = x.0 k; transform = x.1.0 k; private = x.1.1.0 k; others = x.1.1.1 k })
      (λ x. (ap (λ v. v.unicode) x, (ap (λ v. v.transform) x, (ap (λ v. v.private) x, ap (λ v. v.others) x))))
      (Decides-and _ _ (unicode_exact (unicode.value_of d.unicode) (unicode.value_of e.unicode))
      (Decides-and _ _ (transforms d.transform e.transform) (Decides-and _ _
      (words_decide d.private e.private) (pointwise_decides other_decides d.other.items e.other.items))))
