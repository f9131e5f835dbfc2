use Rattle.std.proofs.Common.{◌≡◌, take, length, ◌<◌, sym, subst, arith}
use Rattle.std.specs.Io.{StartsWith}
use Rattle.std.specs.Io.KnownBytes.{Appends, Consumes}
use Rattle.iloc_program.specs.ReplyBlock.{held}
use Rattle.iloc_program.proofs.RunLemmas.{on_err}
use Rattle.iloc_program.proofs.ListedLemmas.{Stands-end, Stands-end_part, Stands-fed, Stands-first, Stands-front, Stands-kept, Stands-part, Stands-read, Stands-read_none}
use Rattle.iloc_program.proofs.numbered.run_numbered_in.Goals as goal
use Rattle.iloc_spec_grammar.specs.Syntax.{Text}

pub returns-in_err-room-clause-err : goal.returns-in_err-room-clause-err
returns-in_err-room-clause-err g c = on_err _ _
    (Stands-front _ _ _ _ _ _ _ _ (Stands-first (g.L.Lists.is_entry c.args.listing) c.args.first _ _))

pub returns-clause-err : goal.returns-clause-err
returns-clause-err g c = Stands-front _ _ _ _ _ _ _ _ c.reads.invariant.stands

pub returns-in_default-clause-err : goal.returns-in_default-clause-err
returns-in_default-clause-err g c = Stands-front _ _ _ _ _ _ _ _
    (Stands-kept _ _ _ _ _ _ _ _ _ c.reads.invariant.stands c.in_default.ensures.bytes)

pub returns-in_err-next-clause-err : goal.returns-in_err-next-clause-err
returns-in_err-next-clause-err g c =
    on_err _ _ (Stands-front _ _ _ _ _ _ _ _ (Stands-read_none _ _ _ _ _ _ _ _ _ _ _ c.reads.invariant.stands
    c.in-Ok.ensures.bytes.0 c.if-count-eq0.true))

pub returns-then-count-eq0-clause-ok : goal.returns-then-count-eq0-clause-ok
returns-then-count-eq0-clause-ok g c =
    let room : 0 < length c.read.new.buf = omega arith in
    let end = c.in-Ok.ensures.bytes.1 c.if-count-eq0.true room in
    Stands-end _ _ _ _ _ _ _ _ (held c.clear.new.self) (held c.finish.new.replies) _ _
    (Stands-read_none _ _ _ _ _ _ _ _ _ _ _ c.reads.invariant.stands c.in-Ok.ensures.bytes.0
    c.if-count-eq0.true)
    end c.in_ok-next.ensures.ok c.clear.ensures
    (subst (Appends _ _) c.as_slice.ensures c.in_ok-write_whole.ensures.ok)

pub returns-in_err-write_whole-clause-err : goal.returns-in_err-write_whole-clause-err
returns-in_err-write_whole-clause-err g c =
    let room : 0 < length c.read.new.buf = omega arith in
    let end = c.in-Ok.ensures.bytes.1 c.if-count-eq0.true room in
    let took = c.in_err-write_whole.ensures.err in
    on_err _ _
    (Stands-end_part _ _ _ _ _ _ _ _ (held c.clear.new.self) (held c.finish.new.replies) took.written _ _
    (Stands-read_none _ _ _ _ _ _ _ _ _ _ _ c.reads.invariant.stands c.in-Ok.ensures.bytes.0
    c.if-count-eq0.true)
    end c.in_ok-next.ensures.ok c.clear.ensures took.bytes
    (subst (λ (t : Text). StartsWith t took.written) c.as_slice.ensures took.begins))

pub returns-in_err-number-clause-err : goal.returns-in_err-number-clause-err
returns-in_err-number-clause-err g c =
    on_err _ _ (Stands-front _ _ _ _ _ _ _ _
    (Stands-read _ _ _ _ _ _ _ _ _ _ c.reads.invariant.stands c.in-Ok.ensures.bytes.0))

pub returns-in_err-write_whole-2-clause-err : goal.returns-in_err-write_whole-2-clause-err
returns-in_err-write_whole-2-clause-err g c =
    let count = c.in-Ok.count in
    let piece = c.split_at.result.0.now in
    let given : piece ≡ take count c.read.new.buf = c.split_at.ensures.front in
    let took = c.in_err-write_whole-2.ensures.err in
    on_err _ _
    (Stands-part _ _ _ _ _ _ _ _ piece (held c.clear.new.self) (held c.feed.new.replies) _ took.written _ _
    (Stands-read _ _ _ _ _ _ _ _ piece _ c.reads.invariant.stands
    (subst (Consumes _ _) (sym given) c.in-Ok.ensures.bytes.0))
    c.in_ok-number.ensures.ok c.clear.ensures took.bytes
    (subst (λ (t : Text). StartsWith t took.written) c.as_slice-in-reads.ensures took.begins))

pub reads-preserved : goal.reads-preserved
reads-preserved g c =
    let count = c.in-Ok.count in
    let piece = c.split_at.result.0.now in
    let given : piece ≡ take count c.read.new.buf = c.split_at.ensures.front in
    record {
      one_line = c.in_ok-number.ensures.ok.one_line;
      room = omega arith;
      stands = Stands-fed _ _ _ _ _ _ _ _ piece (held c.clear.new.self) (held c.feed.new.replies) _ _ _
          (Stands-read _ _ _ _ _ _ _ _ piece _ c.reads.invariant.stands
          (subst (Consumes _ _) (sym given) c.in-Ok.ensures.bytes.0))
          c.in_ok-number.ensures.ok c.clear.ensures
          (subst (Appends _ _) c.as_slice-in-reads.ensures c.in_ok-write_whole-2.ensures.ok);
    }

-- memory was refused where a call says so
pub returns-in_err-room-clause-out_of_memory : goal.returns-in_err-room-clause-out_of_memory
returns-in_err-room-clause-out_of_memory g c e =
    let asked = c.in_err-room.ensures.out_of_memory in (asked.0, asked.2)
