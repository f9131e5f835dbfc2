-- `==` at values and fields decides whether they are the same.
use Rattle.std.proofs.Common.{◌≡◌, ◌&&◌, List, nat_eq, ap}
use Rattle.std.specs.Bool.{Decides}
use Rattle.std.proofs.lemmas.Bool.Decides.{Decides-and, Decides-like}
use lib.Pointwise.{pointwise, pointwise_decides, bytes_decides}
use Rattle.iloc_spec_grammar.specs.Syntax as written
use Rattle.iloc_spec_grammar.specs.Syntax.{Text}
use Rattle.iloc_other.proofs.EqualityLemmas.{words_decide}

-- fields, pair by pair

pair_decides : (f g : Text × List Text) →
    Decides (pointwise nat_eq f.0 g.0 && pointwise (pointwise nat_eq) f.1 g.1) (f ≡ g)
pair_decides f g = Decides-like _ (λ e i. (e.0 i, e.1 i)) (λ e. (ap (λ p. p.0) e, ap (λ p. p.1) e))
    (Decides-and _ _ (bytes_decides f.0 g.0) (words_decide f.1 g.1))

pub fields_decide : (f g : written.Fields) →
    Decides
    (pointwise
    (λ (x y : Text × List Text). pointwise nat_eq x.0 y.0 && pointwise (pointwise nat_eq) x.1 y.1) f g)
    (f ≡ g)
fields_decide = pointwise_decides pair_decides
