use Rattle.std.proofs.lemmas.Result.{err_from_is_err_and}
use Rattle.iloc_subtags.specs.Left.{left}
use Rattle.iloc_langid.proofs.FrontLemmas.{refused_reads, refused_wants, whole_refuses, whole_gives, whole_more, peeked_none, peeked_some}
use Rattle.iloc_langid.proofs.reader.fill_whole.Goals as goal

pub returns-in_err-fill-clause-reads : goal.returns-in_err-fill-clause-reads
returns-in_err-fill-clause-reads g c =
    let p = err_from_is_err_and c.from_residual.result c.from_residual.ensures.1 in
    rw (p.1, p.2) (refused_reads (left c.args.iter.now) c.in_err-fill.field-0.0 (whole_refuses
    (left c.args.iter.now) (left c.fill.new.iter) c.in_err-fill.field-0.0 c.in_err-fill.ensures.reads))

pub returns-in_err-fill-clause-memory : goal.returns-in_err-fill-clause-memory
returns-in_err-fill-clause-memory g c =
    let p = err_from_is_err_and c.from_residual.result c.from_residual.ensures.1 in
    rw (p.1, p.2) (refused_wants (left c.args.iter.now) c.in_err-fill.field-0.0 (whole_refuses
    (left c.args.iter.now) (left c.fill.new.iter) c.in_err-fill.field-0.0 c.in_err-fill.ensures.reads))

pub returns-in-Some-clause-reads : goal.returns-in-Some-clause-reads
returns-in-Some-clause-reads g c =
    whole_more (left c.args.iter.now) (left c.fill.new.iter) c.fill.new.identifier c.in_ok-fill.ensures.reads
    (peeked_some (left c.fill.new.iter) c.in-Some.field-0.now c.in-Some.ensures)

pub returns-in-None-clause-reads : goal.returns-in-None-clause-reads
returns-in-None-clause-reads g c =
    whole_gives (left c.args.iter.now) (left c.fill.new.iter) c.fill.new.identifier c.in_ok-fill.ensures.reads
    (peeked_none (left c.fill.new.iter) c.in-None.ensures)
