use Rattle.std.proofs.Common.{◌++◌, refl, ap, ◌∙◌, subst, Option, Some, None}
use Rattle.std.proofs.lemmas.Result.{on_ok_weaker}
use Rattle.iloc_spec_grammar.specs.Syntax.{Text}
use Rattle.iloc_spec_grammar.specs.Values.{identifier_text}
use Rattle.iloc_subtags.specs.declared.parse_error.ParseError.{ParseError}
use Rattle.iloc_subtags.specs.declared.parse_error.ParseError.TheVariants.{InvalidLanguage}
use Rattle.iloc_pieces.specs.Plain.{value_of}
use Rattle.iloc_pieces.specs.Window.{text_in}
use Rattle.iloc_normalize.proofs.FrontAnswers.{no_language_refused}
use Rattle.iloc_normalize.proofs.PlainAnswers.{plain_normal}
use Rattle.iloc_normalize.specs.declared.Mode.{Mode}
use Rattle.iloc_program.specs.Replies.{AnswersLine}
use Rattle.iloc_program.proofs.PlainLemmas.{answered_reply, normal_reply, refused_reply, refused_then}
use Rattle.iloc_program.proofs.RoomLemmas.{refusal_known, refusal_room}
use Rattle.iloc_program.specs.ReplyBlock.{held}
use Rattle.iloc_program.proofs.lines.reply_to.Goals as goal

pub returns-then-not-may_begin : goal.returns-then-not-may_begin
returns-then-not-may_begin g c =
    let mode = g.A.InMode.mode in
    let line = text_in c.args.line in
    let before = held c.args.replies.now in
    let is = no_language_refused mode line (c.may_begin.ensures c.if-not-may_begin.true) in
    record {
      ok = on_ok_weaker c.write_refusal.result
          (λ e. e ∙ ap (λ (t : Text). before ++ t) (refused_reply mode line InvalidLanguage is))
          c.write_refusal.ensures.text;
      out_of_memory = refusal_room g.M.Memory.refused _ before before line c.write_refusal.result refl
          (refusal_known mode line InvalidLanguage is) c.write_refusal.ensures.out_of_memory;
    }

pub returns-in-Some-clause-ok : goal.returns-in-Some-clause-ok
returns-in-Some-clause-ok g c =
    let mode = g.A.InMode.mode in
    let line = text_in c.args.line in
    on_ok_weaker c.push_plain.result
    (λ e. e ∙ ap (λ (t : Text). held c.args.replies.now ++ t)
    (normal_reply mode line (identifier_text (value_of c.in-Some.plain))
    (plain_normal mode line c.in-Some.plain c.in-Some.ensures)))
    c.push_plain.ensures.ok

pub returns-in-Some-2 : goal.returns-in-Some-2
returns-in-Some-2 g c =
    let mode = g.A.InMode.mode in
    let line = text_in c.args.line in
    let before = held c.args.replies.now in
    let after = held c.answer_as.new.replies in
    let error = c.in-Some-2.error in
    let there : AnswersLine c.mode.result line before after (Some error) =
    subst (λ (o : Option ParseError). AnswersLine c.mode.result line before after o) c.in-Some-2.is
    c.in_ok-error.ensures.ok in
    let is : AnswersLine mode line before after (Some error) =
    subst (λ (m : Mode). AnswersLine m line before after (Some error)) c.mode.ensures there in
    record {
      ok = on_ok_weaker c.write_refusal-in-Some-2.result
          (λ e. refused_then mode line before after _ error is e) c.write_refusal-in-Some-2.ensures.text;
      out_of_memory = refusal_room g.M.Memory.refused _ before after line
          c.write_refusal-in-Some-2.result is.1
          (refusal_known mode line error is.0) c.write_refusal-in-Some-2.ensures.out_of_memory;
    }

pub returns-in-None-clause-ok : goal.returns-in-None-clause-ok
returns-in-None-clause-ok g c =
    let line = text_in c.args.line in
    let before = held c.args.replies.now in
    let after = held c.answer_as.new.replies in
    let there : AnswersLine c.mode.result line before after None =
    subst (λ (o : Option ParseError). AnswersLine c.mode.result line before after o) c.in-None.is
    c.in_ok-error.ensures.ok in
    answered_reply g.A.InMode.mode line before after
    (subst (λ (m : Mode). AnswersLine m line before after None) c.mode.ensures there)
