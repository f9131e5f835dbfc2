use Rattle.std.proofs.Common.{arith, ◌+◌, [], refl}
use Rattle.iloc_writeable.proofs.WritingLemmas.{Writes-last, Writes-stopped}
use Rattle.iloc_expected.specs.Kinds.{kind_bit}
use Rattle.iloc_expected.specs.Words.{after_first, named_from}
use Rattle.iloc_expected.proofs.SetBits.{whole_is}
use Rattle.iloc_expected.proofs.words.ExpectedWriteable.write_to.Goals as goal

pub returns-in_err-write_str : goal.returns-in_err-write_str
returns-in_err-write_str g c =
    Writes-stopped g.met.S.Sink.took_then_failed g.met.S.Sink.failed_of_more _ _ _ _ []
    c.words.result.now (after_first (named_from c.args.self.now (kind_bit c.in-Some.kind + 1))) _ _
    (whole_is c.args.self.now c.in-Some.kind _ _ refl c.in-Some.ensures.some.2 c.words.ensures)
    (g.met.S.Sink.took_nothing _) c.in_err-write_str.ensures c.from_residual.ensures.1

pub returns : goal.returns
returns g c = grind (arith, Writes-last, whole_is)
