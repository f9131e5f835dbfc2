use Rattle.iloc_transform.proofs.MapLemmas.{added_pairs}
use Rattle.iloc_transform.proofs.fields.Fields.add.Goals as goal

pub invariant_of-self-2 : goal.invariant_of-self-2
invariant_of-self-2 g c = rw c.in_ok-try_insert_in.ensures.ok (added_pairs c.args.key c.args.value
    c.as_str.ensures.normal c.as_slice.ensures.normal c.self.inside.map c.self.invariant)
