use Rattle.std.proofs.Common.{arith, ◌+◌, [], ◌++◌, refl, ◌∙◌, append_assoc}
use Rattle.iloc_writeable.proofs.WritingLemmas.{Writes-last, Writes-stopped}
use Rattle.iloc_expected.specs.Words.{after_first, kind_words, named_from}
use Rattle.iloc_expected.proofs.SetBits.{rest_is}
use Rattle.iloc_expected.proofs.kinds.Expected.+write_rest.Goals as goal

pub returns-in_err-write_str : goal.returns-in_err-write_str
returns-in_err-write_str g t c =
    Writes-stopped g.met.S.Sink.took_then_failed g.met.S.Sink.failed_of_more _ _ _ _ []
    c.before_next.result.now
    (kind_words c.in-Some.kind ++ after_first (named_from c.args.self (c.number-later.result + 1))) _ _
    (grind (arith, rest_is))
    (g.met.S.Sink.took_nothing _) c.in_err-write_str.ensures c.from_residual.ensures.1

pub returns-in_err-write_str-2 : goal.returns-in_err-write_str-2
returns-in_err-write_str-2 g t c =
    Writes-stopped g.met.S.Sink.took_then_failed g.met.S.Sink.failed_of_more _ _ _ _ c.before_next.result.now
    c.words.result.now (after_first (named_from c.args.self (c.number-later.result + 1))) _ _
    (grind (arith, rest_is))
    c.in_ok-write_str.ensures c.in_err-write_str-2.ensures c.from_residual-in_err-write_str-2.ensures.1

pub returns : goal.returns
returns g t c =
    Writes-last g.met.S.Sink.took_then_took g.met.S.Sink.took_then_failed _ _ _
    (c.before_next.result.now ++ c.words.result.now) _ _ _
    (grind (arith, append_assoc, rest_is))
    (g.met.S.Sink.took_then_took _ _ _ _ _ c.in_ok-write_str.ensures c.in_ok-write_str-2.ensures)
    c.write_rest.ensures
