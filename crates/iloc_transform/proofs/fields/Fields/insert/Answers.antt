use Rattle.iloc_transform.proofs.MapLemmas.{set_pairs}
use Rattle.iloc_transform.proofs.fields.Fields.insert.Goals as goal

pub invariant_of-self : goal.invariant_of-self
invariant_of-self g c =
    set_pairs c.args.key c.args.value c.as_str.ensures.normal c.as_slice.ensures.normal c.self.inside.map
    c.self.invariant c.insert_in.new.self c.insert_in.result c.insert_in.ensures.ok
    c.insert_in.ensures.err

pub invariant_of-self-2 : goal.invariant_of-self-2
invariant_of-self-2 g c =
    set_pairs c.args.key c.args.value c.as_str.ensures.normal c.as_slice.ensures.normal c.self.inside.map
    c.self.invariant c.insert_in.new.self c.insert_in.result c.insert_in.ensures.ok
    c.insert_in.ensures.err
