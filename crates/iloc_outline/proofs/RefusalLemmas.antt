-- Room for spans was refused: for how many at most.
use Rattle.std.proofs.Common.{◌≡◌, ℕ, Bool, ◌+◌, ◌≤◌, ◌++◌, ◌∷◌, [], Some, length, ap, ◌∙◌, arith, length-append}
use Rattle.iloc_memory.proofs.Within.{within_more}
use Rattle.iloc_spans.specs.Spans.{held_spans}
use Rattle.iloc_spans.specs.declared.span.Role.{Role}
use Rattle.iloc_spans.specs.declared.span.Span.{Span}
use Rattle.iloc_spans.specs.declared.spans.Spans.{Spans}
use Rattle.iloc_pieces.specs.Cursor.{pieces_left}
use Rattle.iloc_pieces.specs.declared.place.Cursor.{Cursor}
use Rattle.iloc_outline.specs.Identifier.{IsAfterFront}
use Rattle.iloc_outline.specs.Parts.{front_pieces}
use Rattle.iloc_outline.specs.Reading.{AreWordsRead, EndsAtBlock, IsRoomRefused}
use Rattle.iloc_outline.specs.declared.reading.Found.{Found}
use Rattle.iloc_outline.specs.declared.reading.Found.TheVariants.{End, Next, Bad, Repeated, Full}
use Rattle.iloc_outline.specs.Outlines.{ReadsHead}
use Rattle.iloc_outline.specs.declared.outline.Outline.{Outline}
use Rattle.iloc_outline.proofs.SpansLemmas.{spell_length}
use Rattle.iloc_spec_grammar.specs.Reading.{front_of}
use Rattle.iloc_spec_grammar.specs.Syntax.{Text, head, pieces}

-- for fewer spans, of which more are there
pub refused_before : (R : ℕ → Type 0) (old mid : Spans) (m n : ℕ)
    → length (held_spans mid) + m ≤ length (held_spans old) + n → IsRoomRefused R mid m
    → IsRoomRefused R old n
refused_before R old mid m n few h =
    within_more R (length (held_spans mid) + m) (length (held_spans old) + n) few h

-- one span more is there
pub one_held : (old new : Spans) (s : Span) → held_spans new ≡ held_spans old ++ s ∷ []
    → length (held_spans new) ≡ length (held_spans old) + 1
one_held old new s e = ap length e ∙ length-append (held_spans old) (s ∷ [])

-- no more spans were put than pieces were passed
pub words_few : (r : Role) (l m : Cursor) (old new : Spans) (o n : Bool) → AreWordsRead r l m old new o n Next
    → length (held_spans new) + length (pieces_left m) ≤ length (held_spans old) + length (pieces_left l)
words_few r l m old new o n (ps, past, none, reads) =
    omega (arith, reads.puts.few, ap length past.pieces, length-append ps (pieces_left m))

pub front_few : (l m : Cursor) → IsAfterFront l (Some m) → length (pieces_left m) ≤ length (pieces_left l)
front_few l m (past, rest) =
    omega (
      arith,
      ap length past.pieces,
      length-append (front_pieces (front_of (pieces_left l))) (pieces_left m),
    )

pub head_few : (t : Text) (o : Outline) (before : Spans) (n : Bool) (l : Cursor)
    → ReadsHead t (head (pieces t)) o before n → pieces t ≡ head (pieces t) ++ pieces_left l
    → length (held_spans before) + length (pieces_left l) ≤ length (pieces t)
head_few t o before n l h cut =
    omega (
      arith,
      spell_length t before _ h.variants,
      h.few,
      ap length cut,
      length-append (head (pieces t)) (pieces_left l),
    )

-- where a block ends, room is lacking only if it was before
pub full_at_block : (m : Cursor) (r s : Found) → EndsAtBlock m r s → s ≡ Full → r ≡ Full
full_at_block m Next Next h e = e
full_at_block m Next Full h e = absurd (h tt)
full_at_block m Next End h e = absurd (h tt)
full_at_block m Next Repeated h e = absurd (h tt)
full_at_block m Next Bad h e = absurd (cc)
full_at_block m End s h e = h ∙ e
full_at_block m Bad s h e = h ∙ e
full_at_block m Repeated s h e = h ∙ e
full_at_block m Full s h e = h ∙ e
