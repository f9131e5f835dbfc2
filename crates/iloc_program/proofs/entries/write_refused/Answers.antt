use Rattle.std.proofs.lemmas.Result.{on_ok_weaker}
use Rattle.iloc_pieces.specs.Window.{text_in}
use Rattle.iloc_faults.specs.declared.Fault.{Fault}
use Rattle.iloc_program.specs.ReplyBlock.{held}
use Rattle.iloc_program.proofs.EntryLemmas.{not_false, not_true, placed, refused}
use Rattle.iloc_program.proofs.RoomLemmas.{refusal_known, refusal_was_refused}
use Rattle.iloc_program.proofs.entries.write_refused.Goals as goal

pub returns-then-not-listing-clause-ok : goal.returns-then-not-listing-clause-ok
returns-then-not-listing-clause-ok g c =
    on_ok_weaker c.write_refusal.result
    (λ e. refused g.A.InMode.mode c.args.listing c.args.number (text_in c.args.line) (held c.args.replies.now)
    c.args.refusal (held c.write_number.new.replies) (held c.write_refusal.new.replies) c.requires
    (not_true c.args.listing.places c.if-not-listing.true) c.in_ok-write_number.ensures.ok e)
    c.write_refusal.ensures.text

pub returns-clause-ok : goal.returns-clause-ok
returns-clause-ok g c =
    let at = c.place_of-start.result in
    let f : Fault = record { refusal = c.args.refusal; start = at.0; end = at.1 } in
    on_ok_weaker c.write_placed.result
    (λ e. placed g.A.InMode.mode c.args.listing c.args.number (text_in c.args.line)
    (held c.args.replies.now) f (held c.write_number.new.replies) (held c.write_placed.new.replies)
    (record { refusal = c.requires; place = c.place_of-start.ensures.place })
    (not_false c.args.listing.places c.if-not-listing.false) c.in_ok-write_number.ensures.ok e)
    c.write_placed.ensures.ok

pub returns-then-not-listing-clause-out_of_memory : goal.returns-then-not-listing-clause-out_of_memory
returns-then-not-listing-clause-out_of_memory g c =
    refusal_was_refused g.M.Memory.refused _ _ c.write_refusal.result
    (refusal_known g.A.InMode.mode (text_in c.args.line) c.args.refusal c.requires)
    c.write_refusal.ensures.out_of_memory
