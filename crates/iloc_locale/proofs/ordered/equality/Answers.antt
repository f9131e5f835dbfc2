use Rattle.std.specs.Cmp.{Equal-is}
use Rattle.iloc_locale.specs.Order.{order}
use Rattle.iloc_locale.specs.OrderLaws.{order_exact}
use Rattle.iloc_locale.proofs.ordered.equality.Goals as goal

pub returns : goal.returns
returns c a b = (
  λ h. (order_exact a b).0 ((Equal-is (order a b)).0 h),
  λ e. (Equal-is (order a b)).1 ((order_exact a b).1 e),
)
