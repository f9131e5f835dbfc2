-- The orders are total, and only equal values tie.
use Rattle.std.proofs.Common.{arith, ◌≡◌, ℕ, zero, suc, List, refl, ap, Option, Some, None}
use Rattle.std.specs.Ordering.{nat_cmp, on}
use Rattle.std.specs.Option.{option_cmp}
use Rattle.std.specs.declared.cmp.Ordering.{Ordering}
use Rattle.std.specs.Cmp.{IsTotalOrder, nat_cmp_total}
use Rattle.std.specs.Cmp.Lexicographic.{slice_cmp, lists_total, options_total}
use Rattle.std.specs.FinMap.{IsAntisymmetric, nat_cmp-IsAntisymmetric, slice_cmp-IsAntisymmetric}
use Rattle.std.proofs.lemmas.Map.Lookups.{exact_pairs}
use Rattle.iloc_spec_grammar.specs.Syntax.{Block, Text, word_cmp, Identifier, Fields, Unicode, Transform}
use Rattle.iloc_spec_grammar.specs.Meaning.{Extensions}
use Rattle.iloc_spec_parts.specs.Orders.{IsExactOrder, pair_cmp, words_cmp, identifier_cmp, keywords_cmp, fields_cmp, unicode_cmp, transform_cmp, other_cmp, extensions_cmp, locale_cmp, ExtensionKind, OfTransform, OfUnicode, OfPrivate, OfOther, place_of_kind, kind_cmp}
use Rattle.iloc_spec_grammar.specs.ShortLists.{short_cmp}

-- orders of parts

module _ {X : Type 0} {R : X → X → Ordering} where
  pub exactly : IsTotalOrder R → IsAntisymmetric R → IsExactOrder R
  exactly o h = grind arith

  pub ties : IsExactOrder R → IsAntisymmetric R
  ties o x y e = (o.exact x y).0 e

module _ {X : Type 0} {R : X → X → Ordering} where
  pub option_exact : IsExactOrder R → IsExactOrder (option_cmp R)
  option_exact o = exactly (options_total o.total) tie
    where
      tie : IsAntisymmetric (option_cmp R)
      tie None None e = refl
      tie None (Some y) e = absurd (cc)
      tie (Some x) None e = absurd (cc)
      tie (Some x) (Some y) e = ap Some (ties o x y e)

  list_exact : IsExactOrder R → IsExactOrder (slice_cmp R)
  list_exact o = exactly (lists_total o.total) (slice_cmp-IsAntisymmetric (ties o))

  short_exact : IsExactOrder R → IsExactOrder (short_cmp R)
  short_exact o = grind (arith, exactly, ties, list_exact) steps 400000

pub pair_exact : {X Y : Type 0} {R : X → X → Ordering} {S : Y → Y → Ordering} → IsExactOrder R →
    IsExactOrder S → IsExactOrder (pair_cmp R S)
pair_exact {R = R} {S = S} o p = grind (arith, exactly, exact_pairs, ties)

-- of a value that is kept as another
pub on_exact : {X Y : Type 0} (to : X → Y) (from : Y → X) → ((x : X) → from (to x) ≡ x) →
    {R : Y → Y → Ordering} → IsExactOrder R → IsExactOrder (on to R)
on_exact to from back o = grind (arith, exactly, ties)

-- the parts of a locale

number_exact : IsExactOrder nat_cmp
number_exact = exactly nat_cmp_total nat_cmp-IsAntisymmetric

pub word_exact : IsExactOrder word_cmp
word_exact = list_exact number_exact

pub words_exact : IsExactOrder words_cmp
words_exact = short_exact word_exact

pub identifier_exact : IsExactOrder identifier_cmp
identifier_exact = on_exact {Y = Text × (Option Text × (Option Text × List Text))}
    (λ i. (i.language, (i.script, (i.region, i.variants))))
    (λ p. record { language = p.0; script = p.1.0; region = p.1.1.0; variants = p.1.1.1 })
    (λ i. refl)
    (pair_exact word_exact
    (pair_exact (option_exact word_exact) (pair_exact (option_exact word_exact) words_exact)))

pub fields_exact : IsExactOrder fields_cmp
fields_exact = list_exact (pair_exact word_exact words_exact)

pub keywords_exact : IsExactOrder keywords_cmp
keywords_exact = short_exact (pair_exact word_exact words_exact)

pub unicode_exact : IsExactOrder unicode_cmp
unicode_exact = grind (arith, on_exact, pair_exact, words_exact, keywords_exact)

pub transform_exact : IsExactOrder transform_cmp
transform_exact =
    on_exact {Y = Option Identifier × Fields} (λ m. (m.id, m.fields)) (λ p. record { id = p.0; fields = p.1 })
    (λ m. refl) (pair_exact (option_exact identifier_exact) fields_exact)

pub other_exact : IsExactOrder other_cmp
other_exact = pair_exact number_exact words_exact

pub extensions_exact : IsExactOrder extensions_cmp
extensions_exact = on_exact {Y = Unicode × (Transform × (List Text × List Block))}
    (λ e. (e.unicode, (e.transform, (e.private, e.others))))
    (λ p. record { unicode = p.0; transform = p.1.0; private = p.1.1.0; others = p.1.1.1 })
    (λ e. refl)
    (pair_exact unicode_exact (pair_exact transform_exact (pair_exact words_exact (list_exact other_exact))))

pub locale_exact : IsExactOrder locale_cmp
locale_exact = on_exact {Y = Identifier × Extensions} (λ M. (M.id, M.extensions))
    (λ p. record { id = p.0; extensions = p.1 }) (λ M. refl) (pair_exact identifier_exact extensions_exact)

-- kinds of extensions

kind_at : ℕ × ℕ → ExtensionKind
kind_at (zero, b) = OfTransform
kind_at (suc zero, b) = OfUnicode
kind_at (suc (suc zero), b) = OfPrivate
kind_at (suc (suc (suc n)), b) = OfOther b

kind_back : (k : ExtensionKind) → kind_at (place_of_kind k) ≡ k
unfolding kind_at
kind_back OfTransform = refl
kind_back _ = refl

pub kind_exact : IsExactOrder kind_cmp
kind_exact = on_exact place_of_kind kind_at kind_back (pair_exact number_exact number_exact)

pub ruleset exact_orders = (
  word_exact,
  words_exact,
  identifier_exact,
  keywords_exact,
  fields_exact,
  unicode_exact,
  transform_exact,
  other_exact,
  extensions_exact,
  locale_exact,
  kind_exact,
)
