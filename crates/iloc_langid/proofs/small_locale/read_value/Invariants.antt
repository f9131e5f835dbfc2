use Rattle.std.proofs.Common.{◌≡◌, [], option_to_list}
use Rattle.iloc_subtags.specs.Left.{left}
use Rattle.iloc_langid.specs.BlockReads.{value_result}
use Rattle.iloc_langid.proofs.small_locale.read_value.Given as goal

abbrev pub invariant-loop-piece : goal.invariant-loop-piece
invariant-loop-piece l =
    value_result (option_to_list l.value) (left l.piece-iterator) ≡ value_result [] (left l.fn.iter)
