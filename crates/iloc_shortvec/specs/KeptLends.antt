use Rattle.std.specs.Prelude.{List}
use Rattle.std.specs.Borrow.{Lends, MutBor, Fml, RattleType, Array}
use Rattle.iloc_shortvec.specs.Kept.{with_list}
use Rattle.iloc_shortvec.specs.contracts.kept.Kept.{the_row}

module _ (T : RattleType) (kept : MutBor (the_row T).Denot) where
  -- once the borrow ends, the items are those that it shows last
  abbrev pub kept_lends_slice : MutBor (List T.Denot) → Fml
  kept_lends_slice r = Lends (the_row T) (Array T 0) kept r (with_list kept.now)
