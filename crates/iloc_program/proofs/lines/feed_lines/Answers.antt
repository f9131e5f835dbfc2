use Rattle.std.proofs.Common.{◌≡◌, ◌≢◌, ℕ, ◌+◌, ◌-◌, ◌<◌, ◌≤◌, [], ◌++◌, length, take, drop, ap, subst, ◌∙◌, sym, arith, append_assoc, length-append}
use Rattle.std.specs.Prelude.{OnOk, Vec}
use Rattle.std.specs.declared.alloc.Global.{Global}
use Rattle.std.proofs.lemmas.Result.{on_ok_weaker}
use Rattle.iloc_program.specs.Lines.{IsOneLine}
use Rattle.std.proofs.lemmas.Bool.Decides.{nat_tests}
use Rattle.std.proofs.lemmas.List.{drop-drop, length-drop, length-take-le, take_all}
use Rattle.std.proofs.lemmas.List.Elements.{All-nil}
use Rattle.iloc_spec_grammar.specs.Syntax.{Text, languages}
use Rattle.iloc_pieces.proofs.WindowLemmas.{text_of_cut}
use Rattle.iloc_program.proofs.LineCuts.{output-cut}
use Rattle.iloc_normalize.specs.declared.Mode.{Mode}
use Rattle.iloc_memory.specs.Refusals.{RefusedWithin}
use Rattle.iloc_memory.proofs.Within.{refused_more}
use Rattle.iloc_program.specs.ReplyBlock.{held}
use Rattle.iloc_program.specs.Replies.{line_room}
use Rattle.iloc_program.proofs.RoomLemmas.{line_in_text}
use Rattle.iloc_program.proofs.RunLemmas.{on_err}
use Rattle.iloc_program.proofs.lines.feed_lines.Goals as goal
use Rattle.iloc_program.proofs.lines.feed_lines.Goals.{then-later-lt16+else-is_empty+in_ok-reply_line, else-later-lt16+in_ok-reply_to}
use Rattle.iloc_program.specs.Answers.{reply, output}

pub lines-preserved : goal.lines-preserved
lines-preserved g c =
    let mode = g.A.InMode.mode in
    let rest = c.lines.rest.now in
    let end = c.line_end-end.result in
    let line = take end rest in
    let later = drop (end + 1) rest in
    let ends = c.line_end-end.ensures in
    let back_len : length rest ≡ end + length c.split_at.result.1.now =
    omega (arith, c.split_at.ensures.back_len, ends.within) in
    let less : end < length rest = elim c.if-later-lt16.branch [
      | then-later-lt16+else-is_empty+in_ok-reply_line w ↦
          grind (arith, nat_tests, back_len, w.is_empty.ensures, w.if-is_empty.false)
      | else-later-lt16+in_ok-reply_to w ↦ omega (arith, back_len)
    ] in
    let replied : held c.if-later-lt16.replies ≡ held c.lines.replies ++ reply languages mode line =
    elim c.if-later-lt16.branch [
      | then-later-lt16+else-is_empty+in_ok-reply_line w ↦
          ap held w.replies-is ∙ w.in_ok-reply_line.ensures.ok.0
          ∙ ap (λ (m : Mode). held c.lines.replies ++ reply languages m c.split_at.result.0.now)
          w.mode.ensures
          ∙ ap (λ (t : Text). held c.lines.replies ++ reply languages mode t) c.split_at.ensures.front
      | else-later-lt16+in_ok-reply_to w ↦
          ap held w.replies-is ∙ w.in_ok-reply_to.ensures.ok
          ∙ ap (λ (t : Text). held c.lines.replies ++ reply languages mode t)
          (text_of_cut rest end (omega (arith, back_len)))
    ] in
    let back : c.split_at.result.1.now ≡ drop end rest = c.split_at.ensures.back in
    let next_is : take (length c.split_at.result.1.now - 1) (drop 1 c.split_at.result.1.now) ≡ later =
    take_all _ (drop 1 c.split_at.result.1.now) (omega (arith, length-drop 1 c.split_at.result.1.now))
    ∙ ap (drop 1) back ∙ drop-drop 1 end rest in
    record {
      empty = elim c.if-later-lt16.branch [
        | then-later-lt16+else-is_empty+in_ok-reply_line w ↦
            ap (λ (v : Vec ℕ Global). v.items) w.pending-is ∙ w.in_ok-reply_line.ensures.ok.1
        | else-later-lt16+in_ok-reply_to w ↦
            ap (λ (v : Vec ℕ Global). v.items) w.pending-is ∙ c.lines.invariant.empty
      ];
      ahead = λ next. c.lines.invariant.ahead next
          ∙ ap (λ (t : Text). held c.lines.replies ++ t)
          (output-cut languages mode [] rest line later next (All-nil (λ (b : ℕ). b ≢ 10)) ends.before
          (ends.newline less))
          ∙ sym (append_assoc (held c.lines.replies) (reply languages mode line)
          (output languages mode (later ++ next)))
          ∙ (λ j. sym replied j ++ output languages mode (sym next_is j ++ next));
      within =
          let all = c.lines.invariant.within in
          let short = ap length next_is in
          let cut = length-drop (end + 1) rest in omega (arith, all, short, cut);
    }

-- the line is within the bytes, and its reply behind those before
pub returns-in_err-reply_line-clause-out_of_memory : goal.returns-in_err-reply_line-clause-out_of_memory
returns-in_err-reply_line-clause-out_of_memory g c next =
    let rest = c.lines.rest.now in
    let line = c.split_at.result.0.now in
    let all = c.lines.invariant.within in
    let cut = ap length c.split_at.ensures.front in
    let short = length-take-le c.line_end-end.result rest c.line_end-end.ensures.within in
    let more = length-append c.args.bytes.now next in
    let whole : length line ≤ length (c.args.bytes.now ++ next) =
    omega (arith, all, cut, short, more, c.line_end-end.ensures.within) in
    on_err _ _ (line_in_text g.M.Memory.refused g.A.InMode.mode (held c.args.replies.now)
    (held c.lines.replies)
    (c.args.bytes.now ++ next) (rest ++ next) line (c.lines.invariant.ahead next) whole
    c.in_err-reply_line.ensures.out_of_memory)

pub returns-in_err-reply_to-clause-out_of_memory : goal.returns-in_err-reply_to-clause-out_of_memory
returns-in_err-reply_to-clause-out_of_memory g c next =
    let rest = c.lines.rest.now in
    let end = c.line_end-end.result in
    let line = take end rest in
    let all = c.lines.invariant.within in
    let short = length-take-le end rest c.line_end-end.ensures.within in
    let back_len : length rest ≡ end + length c.split_at.result.1.now =
    omega (arith, c.split_at.ensures.back_len, c.line_end-end.ensures.within) in
    let more = length-append c.args.bytes.now next in
    let whole : length line ≤ length (c.args.bytes.now ++ next) =
    omega (arith, all, short, more, c.line_end-end.ensures.within) in
    let asked = subst (λ (t : Text). RefusedWithin g.M.Memory.refused (line_room (held c.lines.replies) t))
    (text_of_cut rest end (omega (arith, back_len))) c.in_err-reply_to.ensures.out_of_memory in
    on_err _ _ (line_in_text g.M.Memory.refused g.A.InMode.mode (held c.args.replies.now)
    (held c.lines.replies)
    (c.args.bytes.now ++ next) (rest ++ next) line (c.lines.invariant.ahead next) whole asked)

pub returns : goal.returns
returns g c =
    let mode = g.A.InMode.mode in
    let rest = c.lines.rest.now in
    let none : length c.split_at.result.1.now ≡ 0 =
    grind (arith, nat_tests, c.is_empty.ensures, c.if-is_empty.true) in
    let all : length rest ≤ c.line_end-end.result = omega (arith, c.split_at.ensures.back_len, none) in
    let whole : IsOneLine rest =
    subst IsOneLine (take_all c.line_end-end.result rest all) c.line_end-end.ensures.before in
    let within = c.lines.invariant.within in
    let kept : OnOk c.extend_from_slice.result (c.extend_from_slice.new.list.items ≡ rest) =
    on_ok_weaker c.extend_from_slice.result
    (λ e. e ∙ ap (λ (t : Text). t ++ rest) c.lines.invariant.empty) c.extend_from_slice.ensures.ok in
    let nothing = ap length c.lines.invariant.empty in
    record {
      ok = (
        on_ok_weaker c.extend_from_slice.result (λ e. subst IsOneLine (sym e) whole) kept,
        on_ok_weaker c.extend_from_slice.result
            (λ e next. c.lines.invariant.ahead next
            ∙ ap (λ (t : Text). held c.lines.replies ++ output languages mode (t ++ next)) (sym e))
            kept,
        on_ok_weaker c.extend_from_slice.result
            (λ e. let same = ap length e in omega (arith, same, within)) kept,
      );
      out_of_memory = λ next.
          let more = length-append c.args.bytes.now next in
          refused_more g.M.Memory.refused _ _ (omega (arith, nothing, within, more))
          c.extend_from_slice.result
          c.extend_from_slice.ensures.out_of_memory;
    }
