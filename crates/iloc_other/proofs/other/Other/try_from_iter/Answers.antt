use Rattle.std.proofs.Common.{length, sym, ap, ◌∙◌}
use Rattle.iloc_subtags.specs.Left.{left}
use Rattle.iloc_memory.proofs.Within.{within_more}
use Rattle.iloc_word_list.proofs.RoomLemmas.{allows}
use Rattle.iloc_other.proofs.RoomLemmas.{piece_room}
use Rattle.iloc_other.proofs.OtherLemmas.{takes_piece, takes_none, no_item}
use Rattle.iloc_other.proofs.other.Other.try_from_iter.Goals as goal

pub pieces-preserved : goal.pieces-preserved
pieces-preserved g c = record {
  singleton = c.push_word.ensures.singleton ∙ c.pieces.invariant.singleton;
  words = takes_piece (left c.args.iter.now) (left c.pieces.iter) c.pieces.other.1 c.in-Some.piece.now
      (left c.take_piece.new.iter) c.push_word.new.self.1 c.pieces.invariant.words c.in-Some.ensures.piece
      c.in-Some.ensures.rest c.in_ok-push_word.ensures.ok;
}

pub returns-then-is_empty-clause-reads : goal.returns-then-is_empty-clause-reads
returns-then-is_empty-clause-reads g c =
    takes_none (left c.args.iter.now) (left c.pieces.iter) c.pieces.other.1 c.pieces.invariant.words
    c.in_default.ensures.piece
    (ap length (sym c.as_slice.ensures.words) ∙ no_item _ (sym c.is_empty.ensures ∙ c.if-is_empty.true))

pub returns-in_err-push_word-clause-out_of_memory :
    goal.returns-in_err-push_word-clause-out_of_memory
returns-in_err-push_word-clause-out_of_memory g c =
    let room = piece_room (left c.args.iter.now) (left c.pieces.iter) c.pieces.other.1 c.in-Some.piece.now
    c.pieces.invariant.words c.in-Some.ensures.piece in
    allows _ _ (within_more g.M.Memory.refused _ _ room c.in_err-push_word.ensures.out_of_memory)
