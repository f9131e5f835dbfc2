-- memory that refuses nothing never runs out
use Rattle.std.proofs.Common.{◌≡◌, length}
use Rattle.iloc_subtags.proofs.Judged.{with_memory}
use Rattle.std.specs.Cow.{cow_str_bytes}
use Rattle.iloc_spec_grammar.specs.Values.{text}
use Rattle.iloc_extensions.proofs.RoomLemmas.{never_out}
use Rattle.iloc_locale.proofs.ample_normalizing.Goals as goal

pub returns-clause-accepted : goal.returns-clause-accepted
returns-clause-accepted g c =
    let given = c.normalize_utf8_in.ensures in
    λ L m. with_memory (λ l. cow_str_bytes l ≡ text L) (λ f. ⊥) ⊥ c.normalize_utf8_in.result
    (given.accepted L m)
    (never_out g.M.Memory.refused g.met.M.Ample.never (length c.args.code_units.now)
    c.normalize_utf8_in.result given.out_of_memory)

pub returns-clause-refused : goal.returns-clause-refused
returns-clause-refused g c =
    let given = c.normalize_utf8_in.ensures in
    λ f h. with_memory (λ l. ⊥) (λ k. k ≡ f) ⊥ c.normalize_utf8_in.result (given.refused f h)
    (never_out g.M.Memory.refused g.met.M.Ample.never (length c.args.code_units.now)
    c.normalize_utf8_in.result given.out_of_memory)
