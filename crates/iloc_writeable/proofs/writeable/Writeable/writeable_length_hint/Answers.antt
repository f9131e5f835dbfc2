use Rattle.std.proofs.Common.{ap, ◌∙◌, length, zero-add}
use Rattle.iloc_writeable.specs.Hints.{fitting}
use Rattle.iloc_writeable.proofs.writeable.Writeable.writeable_length_hint.Goals as goal

pub returns : goal.returns
returns g c =
    let n = length (g.Self.Writeable.text c.args.self.now) in
    c.hint.ensures n (c.in-Ok.ensures 0 c.new-counting.ensures ∙ ap fitting (zero-add n))
