use Rattle.std.proofs.Common.{length, sym, ◌∙◌, arith}
use Rattle.std.proofs.lemmas.Result.{err_from_is_err_and}
use Rattle.iloc_subtags.specs.declared.parse_error.ParseError.TheVariants.{InvalidExtension}
use Rattle.iloc_transform.specs.TransformReading as transform
use Rattle.iloc_subtags.specs.Left.{left}
use Rattle.iloc_extensions.proofs.PartLemmas.{transform_refused, transform_over, transform_whole}
use Rattle.iloc_extensions.proofs.AnswerLemmas.{transform_goes, transform_fails, rest_short}
use Rattle.iloc_transform.proofs.RoomLemmas.{passed_on}
use Rattle.iloc_extensions.proofs.taking.take_transform.Goals as goal

pub returns-in_err-fill_transform-clause-reads : goal.returns-in_err-fill_transform-clause-reads
returns-in_err-fill_transform-clause-reads g c =
    let p = err_from_is_err_and c.from_residual.result c.from_residual.ensures.1 in
    let rest = left c.fill_transform.new.iter in
    rw (p.1, p.2) (λ start b M a e.
    transform_fails a e rest rest (record M { transform = transform.value_of c.fill_transform.new.transform })
    c.in_err-fill_transform.field-0.0 (transform_refused (left c.args.iter.now) rest rest
    c.in_err-fill_transform.field-0.0 c.in_err-fill_transform.ensures.reads))

pub returns-then-not-is_at_block-clause-reads : goal.returns-then-not-is_at_block-clause-reads
returns-then-not-is_at_block-clause-reads g c =
    let rest = left c.fill_transform.new.iter in
    λ start b M a e.
    transform_fails a e rest rest (record M { transform = transform.value_of c.fill_transform.new.transform })
    InvalidExtension (transform_over (left c.args.iter.now) rest rest c.fill_transform.new.transform
    c.in_ok-fill_transform.ensures.reads (sym c.is_at_block.ensures ∙ c.if-not-is_at_block.true))

pub returns-clause-reads : goal.returns-clause-reads
returns-clause-reads g c =
    let rest = left c.fill_transform.new.iter in
    λ start b M a e. transform_goes a e rest c.fill_transform.new.transform
    (transform_whole (left c.args.iter.now) rest c.fill_transform.new.transform
    c.in_ok-fill_transform.ensures.reads (sym c.is_at_block.ensures ∙ c.if-not-is_at_block.false))

pub returns-clause-shorter : goal.returns-clause-shorter
returns-clause-shorter g c =
    let rest = left c.fill_transform.new.iter in
    rest_short (left c.args.iter.now) rest
    (transform_whole (left c.args.iter.now) rest c.fill_transform.new.transform
    c.in_ok-fill_transform.ensures.reads (sym c.is_at_block.ensures ∙ c.if-not-is_at_block.false)).1

pub returns-in_err-fill_transform-clause-out_of_memory :
    goal.returns-in_err-fill_transform-clause-out_of_memory
returns-in_err-fill_transform-clause-out_of_memory g c =
    let p = err_from_is_err_and c.from_residual.result c.from_residual.ensures.1 in
    let room = length (left c.args.iter.now) in
    rw (p.1, p.2) (passed_on (Unit {0}) (Unit {0}) g.M.Memory.refused room room (omega arith)
    c.in_err-fill_transform.field-0.0 c.in_err-fill_transform.ensures.out_of_memory)
