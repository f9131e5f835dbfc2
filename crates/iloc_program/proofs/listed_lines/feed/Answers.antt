use Rattle.std.proofs.Common.{◌≡◌, ◌≢◌, ℕ, ◌+◌, [], ◌∷◌, ◌++◌, ap, ◌∙◌, sym, subst, refl, append_assoc, append-nil, rules}
use Rattle.std.proofs.lemmas.List.Elements.{All-nil}
use Rattle.std.proofs.lemmas.Result.{IfOk-weaker}
use Rattle.iloc_spec_grammar.specs.Syntax.{Text}
use Rattle.iloc_program.specs.Feeding.{Feeds}
use Rattle.iloc_program.specs.Lines.{IsOneLine}
use Rattle.iloc_program.specs.ReplyBlock.{held}
use Rattle.iloc_program.proofs.FeedLemmas.{Feeds-both, Feeds-line, Feeds-open}
use Rattle.iloc_program.proofs.listed_lines.feed.Goals as goal

-- the line that was pending is listed, and then what follows it
pub returns-clause-ok : goal.returns-clause-ok
returns-clause-ok g c =
    let IsEntry = g.L.Lists.is_entry c.args.listing in
    let pending = c.args.pending.now.items in
    let old = held c.args.replies.now in
    let line = c.in-Some.line.now in
    let later = c.in-Some.later.now in
    let mid = held c.end_line.new.replies in
    let new = held c.feed_lines-2.new.replies in
    let last = c.feed_lines-2.new.pending.items in
    let one_more : c.in-Some-checked_add.after ≡ c.args.number + 1 = search rules in
    let first : Feeds IsEntry c.args.number pending (line ++ 10 ∷ []) old mid [] c.in-Some-checked_add.after =
    Feeds-line IsEntry _ pending old [] line old mid pending [] _ _
    (Feeds-open IsEntry _ pending old [] pending c.requires (All-nil (λ (b : ℕ). b ≢ 10))
    (sym (append-nil pending)))
    c.in-Some.ensures.0 c.in_ok-end_line.ensures.replies one_more refl in
    let whole : (line ++ 10 ∷ []) ++ later ≡ c.args.piece.now =
    append_assoc line (10 ∷ []) later ∙ sym c.in-Some.ensures.1 in
    IfOk-weaker c.feed_lines-2.result (Feeds IsEntry c.in-Some-checked_add.after [] later mid new last)
    (Feeds IsEntry c.args.number pending c.args.piece.now old new last)
    (λ next then. subst (λ (t : Text). Feeds IsEntry c.args.number pending t old new last next) whole
    (Feeds-both IsEntry _ pending old _ later mid new [] last _ next first then))
    c.feed_lines-2.ensures.ok

-- no line ended
pub returns-in_default-clause-ok : goal.returns-in_default-clause-ok
returns-in_default-clause-ok g c =
    let one : IsOneLine c.args.piece.now = search rules in
    Feeds-open (g.L.Lists.is_entry c.args.listing) _ _ _ _ _ c.requires one
    c.in_ok-extend_from_slice.ensures.ok
