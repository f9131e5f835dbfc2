use Rattle.std.proofs.Common.{sym, ◌∙◌}
use Rattle.std.proofs.lemmas.Result.{err_from_is_err_and}
use Rattle.iloc_spec_grammar.specs.Syntax.{head}
use Rattle.iloc_subtags.specs.Left.{left}
use Rattle.iloc_langid.proofs.FrontLemmas.{refused_reads, refused_wants, head_refuses, head_gives, head_more}
use Rattle.iloc_langid.proofs.reader.fill_head.Goals as goal

pub returns-in_err-fill-clause-reads : goal.returns-in_err-fill-clause-reads
returns-in_err-fill-clause-reads g c =
    let p = err_from_is_err_and c.from_residual.result c.from_residual.ensures.1 in
    rw (p.1, p.2) (refused_reads (head (left c.args.iter.now)) c.in_err-fill.field-0.0 (head_refuses
    (left c.args.iter.now) (left c.fill.new.iter) c.in_err-fill.field-0.0 c.in_err-fill.ensures.reads))

pub returns-in_err-fill-clause-memory : goal.returns-in_err-fill-clause-memory
returns-in_err-fill-clause-memory g c =
    let p = err_from_is_err_and c.from_residual.result c.from_residual.ensures.1 in
    rw (p.1, p.2) (refused_wants (head (left c.args.iter.now)) c.in_err-fill.field-0.0 (head_refuses
    (left c.args.iter.now) (left c.fill.new.iter) c.in_err-fill.field-0.0 c.in_err-fill.ensures.reads))

pub returns-then-not-is_at_block-clause-reads : goal.returns-then-not-is_at_block-clause-reads
returns-then-not-is_at_block-clause-reads g c =
    head_more (left c.args.iter.now) (left c.fill.new.iter) c.fill.new.identifier c.in_ok-fill.ensures.reads
    (sym c.is_at_block.ensures ∙ c.if-not-is_at_block.true)

pub returns-clause-reads : goal.returns-clause-reads
returns-clause-reads g c =
    (head_gives (left c.args.iter.now) (left c.fill.new.iter) c.fill.new.identifier c.in_ok-fill.ensures.reads
    (sym c.is_at_block.ensures ∙ c.if-not-is_at_block.false)).0

pub returns-clause-rest : goal.returns-clause-rest
returns-clause-rest g c =
    (head_gives (left c.args.iter.now) (left c.fill.new.iter) c.fill.new.identifier c.in_ok-fill.ensures.reads
    (sym c.is_at_block.ensures ∙ c.if-not-is_at_block.false)).1
