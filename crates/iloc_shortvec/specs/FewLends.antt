use Rattle.std.specs.Prelude.{List}
use Rattle.std.specs.Borrow.{Lends, MutBor, Fml, RattleType, Array}
use Rattle.iloc_shortvec.specs.ShortList.{overwritten}
use Rattle.iloc_shortvec.specs.contracts.few.Few.{the_row}

module _ (T : RattleType) (few : MutBor (List T.Denot)) where
  -- once the borrow ends, the items are those that it shows last
  abbrev pub few_lends_slice : MutBor (List T.Denot) → Fml
  few_lends_slice r = Lends (the_row T) (Array T 0) few r (overwritten few.now)
