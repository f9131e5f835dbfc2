use Rattle.std.proofs.Common.{subst, Option, Some}
use Rattle.std.proofs.lemmas.Result.{on_ok_weaker}
use Rattle.iloc_subtags.specs.declared.parse_error.ParseError.{ParseError}
use Rattle.iloc_pieces.specs.Window.{text_in}
use Rattle.iloc_program.specs.Replies.{AnswersLine}
use Rattle.iloc_program.specs.ReplyBlock.{held}
use Rattle.iloc_program.proofs.PlainLemmas.{answered_reply, refused_then}
use Rattle.iloc_program.proofs.RoomLemmas.{refusal_known, refusal_room}
use Rattle.iloc_program.proofs.lines.reply_in.Goals as goal

pub returns-in-Some : goal.returns-in-Some
returns-in-Some g c =
    let mode = c.args.mode in
    let line = text_in c.args.line in
    let before = held c.args.replies.now in
    let after = held c.answer_in.new.replies in
    let error = c.in-Some.error in
    let is : AnswersLine mode line before after (Some error) =
    subst (λ (o : Option ParseError). AnswersLine mode line before after o) c.in-Some.is
    c.in_ok-error.ensures.ok in
    record {
      ok = on_ok_weaker c.write_refusal.result
          (λ e. refused_then mode line before after _ error is e) c.write_refusal.ensures.text;
      out_of_memory = refusal_room g.M.Memory.refused _ before after line c.write_refusal.result is.1
          (refusal_known mode line error is.0) c.write_refusal.ensures.out_of_memory;
    }

pub returns-in-None-clause-ok : goal.returns-in-None-clause-ok
returns-in-None-clause-ok g c =
    let line = text_in c.args.line in
    let before = held c.args.replies.now in
    let after = held c.answer_in.new.replies in
    answered_reply c.args.mode line before after
    (subst (λ (o : Option ParseError). AnswersLine c.args.mode line before after o)
    c.in-None.is c.in_ok-error.ensures.ok)
