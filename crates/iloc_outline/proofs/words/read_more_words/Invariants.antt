use Rattle.std.proofs.Common.{◌≡◌, ◌+◌, ◌≤◌, ℕ, Bool, false, ◌++◌, length}
use Rattle.iloc_pieces.specs.Cursor.{IsLater, pieces_left}
use Rattle.iloc_pieces.specs.declared.place.Cursor.{Cursor}
use Rattle.iloc_outline.specs.Gathering.{Walks}
use Rattle.iloc_spans.specs.Group.{group_spans}
use Rattle.iloc_spans.specs.Spans.{held_spans}
use Rattle.iloc_spans.specs.declared.spans.Spans.{Spans}
use Rattle.iloc_outline.proofs.words.read_more_words.Given as goal

-- the words up to here were passed, and put in order in the group
abbrev pub invariant-words : goal.invariant-words
invariant-words g l = record {
  later : IsLater l.cursor;
  walks : (first : Cursor) (old : Spans) (last : ℕ) (o n : Bool) → old.count ≡ l.fn.from
      → Walks l.fn.role first l.fn.cursor (held_spans old) (held_spans l.fn.spans) last o n
      → (held_spans l.spans ≡ held_spans old)
      × ((now : ℕ)
      × Walks l.fn.role first l.cursor (held_spans old) (held_spans l.spans ++ group_spans l.group) now o
      false);
  few : length (held_spans l.spans) + length (group_spans l.group) + length (pieces_left l.cursor)
      ≤ length (held_spans l.fn.spans) + length (pieces_left l.fn.cursor);
}

abbrev pub decreases-words : goal.decreases-words
decreases-words g l = l.cursor.remaining
