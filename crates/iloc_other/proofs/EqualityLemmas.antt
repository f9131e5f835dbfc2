-- `==` at words, lists of words and others decides whether they are the same.
use Rattle.std.proofs.Common.{◌≡◌, ℕ, ◌&&◌, List, nat_eq, ap}
use Rattle.std.specs.Bool.{Decides}
use Rattle.std.proofs.lemmas.Bool.Decides.{Decides-and, Decides-eqb, Decides-like}
use lib.Pointwise.{pointwise, pointwise_decides, bytes_decides}
use Rattle.iloc_spec_grammar.specs.Syntax.{Text}

pub words_decide : (v w : List Text) → Decides (pointwise (pointwise nat_eq) v w) (v ≡ w)
words_decide = pointwise_decides bytes_decides

pub other_decides : (o q : ℕ × List Text) →
    Decides (nat_eq o.0 q.0 && pointwise (pointwise nat_eq) o.1 q.1) (o ≡ q)
other_decides o q = Decides-like _ (λ e i. (e.0 i, e.1 i)) (λ e. (ap (λ p. p.0) e, ap (λ p. p.1) e))
    (Decides-and _ _ (Decides-eqb o.0 q.0) (words_decide o.1 q.1))
