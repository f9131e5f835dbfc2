use Rattle.std.proofs.Common.{◌≡◌, [], ◌++◌, take, length, ◌<◌, ap, ◌∙◌, sym, subst, arith, append_assoc, length-append, None}
use Rattle.iloc_memory.specs.Refusals.{RefusedWithin}
use Rattle.iloc_memory.proofs.Within.{within_more}
use Rattle.iloc_program.specs.Replies.{text_room}
use Rattle.std.specs.Io.{StartsWith}
use Rattle.std.specs.Io.KnownBytes.{Appends, Consumes}
use Rattle.iloc_program.specs.ReplyBlock.{held}
use Rattle.iloc_program.proofs.RunLemmas.{Replies-fed, Stands-end, Stands-end_part, Stands-first, Stands-front, Stands-kept, Stands-part, Stands-read, Stands-read_none, Stands-written, on_err, on_err_then, on_ok_then, refused_ahead}
use Rattle.iloc_program.specs.Answers.{output}
use Rattle.iloc_spec_grammar.specs.Syntax.{Text, languages}
use Rattle.iloc_program.proofs.run_with_in.Goals as goal

pub returns-in_err-room-clause-err : goal.returns-in_err-room-clause-err
returns-in_err-room-clause-err g c = on_err _ _ (Stands-front _ _ _ _ _ _ (Stands-first g.A.InMode.mode _ _))

pub returns-clause-err : goal.returns-clause-err
returns-clause-err g c = Stands-front _ _ _ _ _ _ c.reads.invariant.stands

pub returns-in_default-clause-err : goal.returns-in_default-clause-err
returns-in_default-clause-err g c =
    Stands-front _ _ _ _ _ _ (Stands-kept _ _ _ _ _ _ _ c.reads.invariant.stands c.in_default.ensures.bytes)

pub returns-in_err-finish-clause-err : goal.returns-in_err-finish-clause-err
returns-in_err-finish-clause-err g c =
    on_err _ _ (Stands-front _ _ _ _ _ _
    (Stands-read_none _ _ _ _ _ _ _ _ _ c.reads.invariant.stands c.in-Ok.ensures.bytes.0 c.if-count-eq0.true))

pub returns-then-count-eq0-clause-ok : goal.returns-then-count-eq0-clause-ok
returns-then-count-eq0-clause-ok g c =
    let room : 0 < length c.read.new.buf = omega arith in
    let end = c.in-Ok.ensures.bytes.1 c.if-count-eq0.true room in
    let written : c.as_slice.result.now ≡ output languages g.A.InMode.mode c.reads.pending.items =
    c.as_slice.ensures ∙ c.in_ok-finish.ensures.ok
    ∙ ap (λ (t : Text). t ++ output languages g.A.InMode.mode c.reads.pending.items) c.clear.ensures in
    on_ok_then c.write_whole.result _ _ c.write_whole.ensures.ok
    (λ took. Stands-end _ _ _ _ _ _ _ c.as_slice.result.now
    (Stands-read_none _ _ _ _ _ _ _ _ _ c.reads.invariant.stands c.in-Ok.ensures.bytes.0 c.if-count-eq0.true)
    end written took)

pub returns-then-count-eq0-clause-err : goal.returns-then-count-eq0-clause-err
returns-then-count-eq0-clause-err g c =
    let room : 0 < length c.read.new.buf = omega arith in
    let end = c.in-Ok.ensures.bytes.1 c.if-count-eq0.true room in
    let written : c.as_slice.result.now ≡ output languages g.A.InMode.mode c.reads.pending.items =
    c.as_slice.ensures ∙ c.in_ok-finish.ensures.ok
    ∙ ap (λ (t : Text). t ++ output languages g.A.InMode.mode c.reads.pending.items) c.clear.ensures in
    on_err_then c.write_whole.result _ _ c.write_whole.ensures.err
    (λ took. Stands-end_part _ _ _ _ _ _ _ c.as_slice.result.now took.written
    (Stands-read_none _ _ _ _ _ _ _ _ _ c.reads.invariant.stands c.in-Ok.ensures.bytes.0 c.if-count-eq0.true)
    end written took.bytes took.begins)

pub returns-in_err-feed-clause-err : goal.returns-in_err-feed-clause-err
returns-in_err-feed-clause-err g c =
    on_err _ _
    (Stands-front _ _ _ _ _ _ (Stands-read _ _ _ _ _ _ _ _ c.reads.invariant.stands c.in-Ok.ensures.bytes.0))

pub returns-in_err-write_whole-clause-err : goal.returns-in_err-write_whole-clause-err
returns-in_err-write_whole-clause-err g c =
    let count = c.in-Ok.count in
    let piece = c.split_at.result.0.now in
    let given : piece ≡ take count c.read.new.buf = c.split_at.ensures.front in
    let fed = Replies-fed g.A.InMode.mode (held c.clear.new.self) c.reads.pending.items piece
    c.feed.new.pending.items (held c.feed.new.replies) c.clear.ensures c.in_ok-feed.ensures.ok.1
    c.in_ok-feed.ensures.ok.2 in
    let took = c.in_err-write_whole.ensures.err in
    on_err _ _ (Stands-part _ _ _ _ _ _ _ _ _ took.written
    (Stands-read _ _ _ _ _ _ _ piece c.reads.invariant.stands
    (subst (Consumes _ _) (sym given) c.in-Ok.ensures.bytes.0))
    fed took.bytes
    (subst (λ (t : Text). StartsWith t took.written) c.as_slice-in-reads.ensures took.begins))

pub reads-preserved : goal.reads-preserved
reads-preserved g c =
    let count = c.in-Ok.count in
    let piece = c.split_at.result.0.now in
    let replies = held c.feed.new.replies in
    let given : piece ≡ take count c.read.new.buf = c.split_at.ensures.front in
    let fed = Replies-fed g.A.InMode.mode (held c.clear.new.self) c.reads.pending.items piece
    c.feed.new.pending.items replies c.clear.ensures c.in_ok-feed.ensures.ok.1 c.in_ok-feed.ensures.ok.2 in
    let written : replies ≡ c.as_slice-in-reads.result.now = sym c.as_slice-in-reads.ensures in
    record {
      one_line = c.in_ok-feed.ensures.ok.0;
      room = omega arith;
      stands = Stands-written _ _ _ _ _ _ _ _ _
          (Stands-read _ _ _ _ _ _ _ piece c.reads.invariant.stands
          (subst (Consumes _ _) (sym given) c.in-Ok.ensures.bytes.0))
          fed (subst (Appends _ _) (sym written) c.in_ok-write_whole.ensures.ok);
    }

-- memory was refused where a call says so, within the room for all that is read
pub returns-in_err-room-clause-out_of_memory : goal.returns-in_err-room-clause-out_of_memory
returns-in_err-room-clause-out_of_memory g c e =
    refused_ahead g.A.InMode.mode g.M.Memory.refused _ _ _ _ [] (Stands-first g.A.InMode.mode _ None)
    (λ next. within_more g.M.Memory.refused 65536 _ (omega arith) c.in_err-room.ensures.out_of_memory)

pub returns-in_err-finish-clause-out_of_memory : goal.returns-in_err-finish-clause-out_of_memory
returns-in_err-finish-clause-out_of_memory g c e =
    let mode = g.A.InMode.mode in
    let pending = c.reads.pending.items in
    let none = ap length c.clear.ensures in
    refused_ahead mode g.M.Memory.refused _ _ _ _ pending
    (Stands-read_none _ _ _ _ _ _ _ _ _ c.reads.invariant.stands c.in-Ok.ensures.bytes.0 c.if-count-eq0.true)
    (λ next. within_more g.M.Memory.refused _ (text_room mode [] (pending ++ next))
    (omega (arith, none, length-append pending next)) c.in_err-finish.ensures.out_of_memory)

pub returns-in_err-feed-clause-out_of_memory : goal.returns-in_err-feed-clause-out_of_memory
returns-in_err-feed-clause-out_of_memory g c e =
    let mode = g.A.InMode.mode in
    let pending = c.reads.pending.items in
    let piece = c.split_at.result.0.now in
    let given : piece ≡ take c.in-Ok.count c.read.new.buf = c.split_at.ensures.front in
    refused_ahead mode g.M.Memory.refused _ _ _ _ (pending ++ piece)
    (Stands-read _ _ _ _ _ _ _ piece c.reads.invariant.stands
    (subst (Consumes _ _) (sym given) c.in-Ok.ensures.bytes.0))
    (λ next. subst (λ (t : Text). RefusedWithin g.M.Memory.refused (text_room mode [] t))
    (sym (append_assoc pending piece next))
    (subst (λ (t : Text). RefusedWithin g.M.Memory.refused (text_room mode t (pending ++ (piece ++ next))))
    c.clear.ensures (c.in_err-feed.ensures.out_of_memory next)))
