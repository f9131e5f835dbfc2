use Rattle.std.proofs.Common.{◌++◌, ◌∷◌, [], sym, ap, ◌∙◌, true≢false}
use Rattle.std.proofs.lemmas.Result.{err_from_is_err_and}
use Rattle.iloc_spec_grammar.specs.Syntax.{PrivateSubtag}
use Rattle.iloc_subtags.specs.Left.{left}
use Rattle.iloc_memory.proofs.Within.{within_more}
use Rattle.iloc_word_list.proofs.RoomLemmas.{allows}
use Rattle.iloc_other.proofs.TakingLemmas.{takes_word, refuses_piece, wants_memory, takes_none, word_room}
use Rattle.iloc_other.proofs.private.fill_private.Goals as goal
use Rattle.iloc_spec_grammar.proofs.ReadWords.{accepted_from_read, refused_from_read}

pub returns-in_err-word-clause-reads : goal.returns-in_err-word-clause-reads
returns-in_err-word-clause-reads g c =
    let p = err_from_is_err_and c.from_residual.result c.from_residual.ensures.1 in
    let refused =
    refused_from_read PrivateSubtag _ c.in_err-word.field-0.0 c.in-Some.piece.now c.in_err-word.ensures in
    rw (p.1, p.2, refused.1) (refuses_piece _ _ _ c.words.invariant c.in-Some.piece.now (left c.next.new.self)
    c.in-Some.ensures.steps refused.0)

pub words-preserved : goal.words-preserved
words-preserved g c =
    let read =
    accepted_from_read PrivateSubtag _ c.in-Some.piece.now c.in_ok-word.word c.in_ok-word.ensures in
    takes_word _ _ _ c.words.invariant c.in-Some.piece.now (left c.next.new.self) c.in-Some.ensures.steps _
    read.0 (c.in_ok-push_in.ensures.ok ∙ ap (λ w. c.words.private-inside.words ++ w ∷ []) read.1)

pub returns-in_err-push_in-clause-reads : goal.returns-in_err-push_in-clause-reads
returns-in_err-push_in-clause-reads g c =
    let p = err_from_is_err_and c.from_residual-in_err-push_in.result
    c.from_residual-in_err-push_in.ensures.1 in
    let read =
    accepted_from_read PrivateSubtag _ c.in-Some.piece.now c.in_ok-word.word c.in_ok-word.ensures in
    rw (p.1, p.2) (wants_memory _ _ _ c.words.invariant c.in-Some.piece.now (left c.next.new.self)
    c.in-Some.ensures.steps read.0 (λ l. true≢false (sym (c.in_err-push_in.ensures.succeeds l))))

pub returns-then-is_empty-clause-reads : goal.returns-then-is_empty-clause-reads
returns-then-is_empty-clause-reads g c =
    takes_none _ _ _ c.words.invariant c.in_default.ensures.steps.0 (c.is_empty.ensures.0 c.if-is_empty.true)

pub returns-in_err-word-clause-out_of_memory : goal.returns-in_err-word-clause-out_of_memory
returns-in_err-word-clause-out_of_memory g c =
    let p = err_from_is_err_and c.from_residual.result c.from_residual.ensures.1 in
    let refused =
    refused_from_read PrivateSubtag _ c.in_err-word.field-0.0 c.in-Some.piece.now c.in_err-word.ensures in
    rw (p.1, p.2, refused.1) tt

pub returns-in_err-push_in-clause-out_of_memory : goal.returns-in_err-push_in-clause-out_of_memory
returns-in_err-push_in-clause-out_of_memory g c =
    let read =
    accepted_from_read PrivateSubtag _ c.in-Some.piece.now c.in_ok-word.word c.in_ok-word.ensures in
    let room = word_room _ _ _ c.words.invariant c.in-Some.piece.now (left c.next.new.self)
    c.in-Some.ensures.steps read.0 in
    allows _ _ (within_more g.M.Memory.refused _ _ room c.in_err-push_in.ensures.out_of_memory)
