use Rattle.std.proofs.Common.{◌+◌, length, ap, arith}
use Rattle.std.proofs.lemmas.Result.{err_from_is_err_and}
use Rattle.iloc_subtags.specs.Left.{left}
use Rattle.iloc_extensions.specs.ExtensionsValue.{value_of}
use Rattle.iloc_subtags.proofs.ByteLemmas.{byte_first}
use Rattle.iloc_transform.proofs.RoomLemmas.{passed_on}
use Rattle.iloc_extensions.proofs.AnswerLemmas.{none_done, whole_fails, goes_on, stops}
use Rattle.iloc_extensions.proofs.blocks.read_blocks.Goals as goal

pub returns-in_err-read_block-clause-reads : goal.returns-in_err-read_block-clause-reads
returns-in_err-read_block-clause-reads g c =
    let p = err_from_is_err_and c.from_residual.result c.from_residual.ensures.1 in
    let d = goes_on (left c.blocks-2.iter) (left c.take_byte.new.iter) c.in-Some.byte
    c.blocks-2.invariant.done c.in-Some.ensures.byte c.in-Some.ensures.rest in
    rw (p.1, p.2) (whole_fails (left c.args.iter.now) (left c.read_block.new.iter)
    (left c.read_block.new.iter) (value_of c.read_block.new.extensions) c.in_err-read_block.field-0.0
    (c.in_err-read_block.ensures.reads (left c.args.iter.now) d))

pub returns-in_err-read_block-clause-out_of_memory : goal.returns-in_err-read_block-clause-out_of_memory
returns-in_err-read_block-clause-out_of_memory g c =
    let p = err_from_is_err_and c.from_residual.result c.from_residual.ensures.1 in
    let first = ap length (byte_first (left c.blocks-2.iter) (left c.take_byte.new.iter) c.in-Some.byte
    c.in-Some.ensures.byte c.in-Some.ensures.rest) in
    let room = c.blocks-2.invariant.room in
    let asked = length c.blocks-2.extensions.other.items + 1 + length (left c.take_byte.new.iter) in
    rw (p.1, p.2) (passed_on (Unit {0}) (Unit {0}) g.M.Memory.refused asked (length (left c.args.iter.now))
    (omega (arith, first, room)) c.in_err-read_block.field-0.0 c.in_err-read_block.ensures.out_of_memory)

pub returns-clause-reads : goal.returns-clause-reads
returns-clause-reads g c =
    stops (left c.args.iter.now) (left c.blocks-2.iter) (value_of c.blocks-2.extensions)
    c.blocks-2.invariant.done c.in_default.ensures.byte

pub blocks-2-init : goal.blocks-2-init
blocks-2-init g c =
    let none = ap (λ e. length e.others) c.requires.empty in record {
      done = none_done (left c.args.iter.now) (value_of c.args.extensions.now) c.requires.starts
          c.requires.empty;
      room = omega (arith, none);
    }

pub blocks-2-preserved : goal.blocks-2-preserved
blocks-2-preserved g c =
    let d = goes_on (left c.blocks-2.iter) (left c.take_byte.new.iter) c.in-Some.byte
    c.blocks-2.invariant.done c.in-Some.ensures.byte c.in-Some.ensures.rest in
    let first = ap length (byte_first (left c.blocks-2.iter) (left c.take_byte.new.iter) c.in-Some.byte
    c.in-Some.ensures.byte c.in-Some.ensures.rest) in
    let room = c.blocks-2.invariant.room in
    let more = c.in_ok-read_block.ensures.more in
    let shorter = c.in_ok-read_block.ensures.shorter in record {
      done = c.in_ok-read_block.ensures.reads (left c.args.iter.now) d;
      room = omega (arith, first, room, more, shorter);
    }
