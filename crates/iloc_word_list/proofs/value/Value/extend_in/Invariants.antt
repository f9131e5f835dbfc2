-- The items so far are at the end.
use Rattle.std.proofs.Common.{◌≡◌, ◌++◌, length}
use Rattle.iloc_word_list.proofs.value.Value.extend_in.Given as goal

abbrev pub invariant-loop-subtag : goal.invariant-loop-subtag
invariant-loop-subtag g l =
    (goal.iterator-loop-subtag g).can_next l.subtag-iterator ×
    (goal.iterator-loop-subtag g).is_finite l.subtag-iterator ×
    (l.self ≡ l.initial.self ++ l.yielded) ×
    (l.before ≡ length l.initial.self)
