use Rattle.std.proofs.Common.{◌≡◌, ℕ, ◌+◌, ◌-◌, ◌<◌, [], ◌∷◌, ◌++◌, length, take, drop, ap, ◌∙◌, sym, subst, arith, rules}
use Rattle.std.specs.Prelude.{Vec}
use Rattle.std.specs.declared.alloc.Global.{Global}
use Rattle.std.proofs.lemmas.Bool.Decides.{nat_tests}
use Rattle.std.proofs.lemmas.List.{drop-drop, length-drop, take_all}
use Rattle.iloc_spec_grammar.specs.Syntax.{Text}
use Rattle.iloc_pieces.proofs.WindowLemmas.{text_of_cut}
use Rattle.iloc_program.specs.Lines.{IsOneLine}
use Rattle.iloc_program.specs.Numbered.{AddsText}
use Rattle.iloc_program.specs.ReplyBlock.{held}
use Rattle.iloc_program.proofs.FeedLemmas.{Feeds-line, taken_with}
use Rattle.iloc_program.proofs.listed_lines.feed_lines.Goals as goal
use Rattle.iloc_program.proofs.listed_lines.feed_lines.Goals.{then-later-lt16+else-is_empty+in_ok-end_line, else-later-lt16+in_ok-list_line}

pub lines-preserved : goal.lines-preserved
lines-preserved g c =
    let taken = c.lines.invariant.0 in
    let rest = c.lines.rest.now in
    let end = c.line_end-end.result in
    let line = c.split_at.result.0.now in
    let later = c.split_at.result.1.now in
    let pending = c.lines.pending.items in
    let ends = c.line_end-end.ensures in
    let front : line ≡ take end rest = c.split_at.ensures.front in
    let back_len : length rest ≡ end + length later =
    omega (arith, c.split_at.ensures.back_len, ends.within) in
    let less : end < length rest = elim c.if-later-lt16.branch [
      | then-later-lt16+else-is_empty+in_ok-end_line w ↦
          grind (arith, nat_tests, back_len, w.is_empty.ensures, w.if-is_empty.false)
      | else-later-lt16+in_ok-list_line w ↦ omega (arith, back_len)
    ] in
    let newline : rest ≡ line ++ 10 ∷ drop (end + 1) rest =
    ends.newline less ∙ ap (λ (t : Text). t ++ 10 ∷ drop (end + 1) rest) (sym front) in
    let next_is : take (length later - 1) (drop 1 later) ≡ drop (end + 1) rest =
    take_all _ (drop 1 later) (omega (arith, length-drop 1 later))
    ∙ ap (drop 1) c.split_at.ensures.back ∙ drop-drop 1 end rest in
    let IsNext = g.L.Lists.is_entry c.args.listing c.lines.next in
    let added : AddsText (IsNext (pending ++ line)) (held c.lines.replies) (held c.if-later-lt16.replies) =
    elim c.if-later-lt16.branch [
      | then-later-lt16+else-is_empty+in_ok-end_line w ↦
          subst (AddsText (IsNext (pending ++ line)) (held c.lines.replies)) (sym (ap held w.replies-is))
          w.in_ok-end_line.ensures.replies
      | else-later-lt16+in_ok-list_line w ↦
          subst (AddsText (IsNext (pending ++ line)) (held c.lines.replies)) (sym (ap held w.replies-is))
          (subst (λ (t : Text). AddsText (IsNext t) (held c.lines.replies) (held w.list_line.new.replies))
          (text_of_cut rest end (omega (arith, back_len)) ∙ sym front
          ∙ ap (λ (t : Text). t ++ line) (sym c.lines.invariant.2))
          w.in_ok-list_line.ensures.replies)
    ] in
    let empty : c.if-later-lt16.pending.items ≡ [] = elim c.if-later-lt16.branch [
      | then-later-lt16+else-is_empty+in_ok-end_line w ↦
          ap (λ (v : Vec ℕ Global). v.items) w.pending-is ∙ w.in_ok-end_line.ensures.pending
      | else-later-lt16+in_ok-list_line w ↦
          ap (λ (v : Vec ℕ Global). v.items) w.pending-is ∙ c.lines.invariant.2
    ] in
    let one_more : c.in-Some.after ≡ c.lines.next + 1 = search rules in (
      taken ++ (line ++ 10 ∷ []),
      taken_with _ taken rest line (drop (end + 1) rest) _ c.lines.invariant.1 newline next_is,
      empty,
      Feeds-line _ _ _ _ taken line (held c.lines.replies) _ pending _ c.lines.next _ c.lines.invariant.3
          (subst IsOneLine (sym front) ends.before) added one_more empty,
    )
