-- memory that refuses nothing never runs out
use Rattle.std.proofs.Common.{◌≡◌, length}
use Rattle.iloc_subtags.proofs.Judged.{with_memory}
use Rattle.iloc_locale.specs.LocaleReading.{value_of}
use Rattle.iloc_extensions.proofs.RoomLemmas.{never_out}
use Rattle.iloc_locale.proofs.ample_memory.Goals as goal

pub returns-clause-accepted : goal.returns-clause-accepted
returns-clause-accepted g c =
    let given = c.try_from_utf8_in.ensures in
    λ L m. with_memory (λ l. value_of l ≡ L) (λ f. ⊥) ⊥ c.try_from_utf8_in.result (given.accepted L m)
    (never_out g.M.Memory.refused g.met.M.Ample.never (length c.args.code_units.now) c.try_from_utf8_in.result
    given.out_of_memory)

pub returns-clause-refused : goal.returns-clause-refused
returns-clause-refused g c =
    let given = c.try_from_utf8_in.ensures in
    λ f h. with_memory (λ l. ⊥) (λ k. k ≡ f) ⊥ c.try_from_utf8_in.result (given.refused f h)
    (never_out g.M.Memory.refused g.met.M.Ample.never (length c.args.code_units.now) c.try_from_utf8_in.result
    given.out_of_memory)
