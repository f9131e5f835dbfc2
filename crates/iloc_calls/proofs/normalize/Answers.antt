use Rattle.iloc_calls.proofs.Bounds.{needed_fits}
use Rattle.iloc_calls.proofs.normalize.Goals as goal

pub returns-clause-bounded : goal.returns-clause-bounded
returns-clause-bounded c m e =
    let told = c.normalize.ensures.known m e in
    needed_fits m c.args.text.now c.args.buffer.now c.normalize.new.buffer c.normalize.new.needed told.0
    told.2
