-- At a singleton of a text: what each step of the reader of blocks says.
use Rattle.std.proofs.Common.{◌≡◌, ℕ, ◌+◌, ◌-◌, ◌<◌, ◌≤◌, Bool, true, false, List, [], ◌∷◌, length, refl, sym, ap, ◌∙◌, subst, arith, Some, slice_index, true≢false, length-append}
use Rattle.std.specs.List.{AllByRecursion, list_any}
use Rattle.std.specs.Char.{is_ascii_alphanumeric, to_ascii_lowercase}
use Rattle.std.specs.Ordering.{nat_cmp, eq_by_cmp}
use Rattle.std.proofs.lemmas.Bool.{or_from}
use Rattle.iloc_spec_grammar.specs.Syntax.{Text, blocks, first_piece, is_one_byte, languages}
use Rattle.iloc_spec_grammar.specs.Meaning.{Fault}
use Rattle.iloc_spec_grammar.specs.Meaning as faults
use Rattle.iloc_spec_grammar.specs.Reading.{rest_of, transform_of, unicode_of}
use Rattle.iloc_spec_grammar.specs.Computing.{first_fault}
use Rattle.iloc_spec_grammar.proofs.Singletons.{two_more, untied}
use Rattle.iloc_subtags.specs.declared.parse_error.ParseError.{ParseError}
use Rattle.iloc_subtags.specs.declared.parse_error.ParseError.TheVariants.{InvalidExtension, InvalidSubtag, DuplicatedExtension}
use Rattle.iloc_subtags.specs.Judging.{error_of}
use Rattle.iloc_outline.specs.Blocks.{AreBegun, IsBlockRead, body_of}
use Rattle.iloc_pieces.specs.Cursor.{IsEnd, IsLater, IsNextPiece, IsSpanned, piece_left, pieces_left, whole_text}
use Rattle.iloc_outline.specs.Parts.{rank}
use Rattle.iloc_outline.specs.Reading.{IsTooMuch}
use Rattle.iloc_pieces.specs.declared.place.Cursor.{Cursor}
use Rattle.iloc_outline.specs.declared.reading.Found.TheVariants.{End, Next, Bad, Repeated, Full}
use Rattle.iloc_spans.specs.Spans.{held_spans}
use Rattle.iloc_spans.specs.declared.spans.Spans.{Spans}
use Rattle.iloc_outline.proofs.BlocksLemmas.{IsAt, IsBadBlock, IsDone, IsPlaced, IsRead, IsTold, at_start, groups_of, is_bad, is_placed, is_second, no_letter, ranks, read_bad, read_end, read_full, read_next, read_repeated, repeats, stays, told}
use Rattle.iloc_outline.proofs.SpansLemmas.{spell_length}
use Rattle.iloc_spans.proofs.HeldLemmas.{length-held}
use Rattle.iloc_pieces.proofs.CursorLemmas.{past_first, single_short, spanned_next, spanned_none}
use Rattle.iloc_pieces.proofs.RunWords.{and-false}
use Rattle.iloc_outline.proofs.TransformLemmas.{no_language}

-- ---- the byte of a singleton

pub one_byte : (p : Text) → is_one_byte p ≡ true → p ≡ slice_index p 0 ∷ []
one_byte [] h = absurd (true≢false (sym h))
one_byte (c ∷ []) h = refl
one_byte (c ∷ d ∷ p) h = absurd (true≢false (sym h ∙ two_more (length p)))

byte_first : (ps : List Text) → is_one_byte (first_piece ps) ≡ true → ps
    ≡ (slice_index (first_piece ps) 0 ∷ []) ∷ rest_of ps
byte_first [] h = absurd (true≢false (sym h))
byte_first (p ∷ ps) h = ap (λ q. q ∷ ps) (one_byte p h)

-- no rank is above the greatest
unseen : (last r : ℕ) → last < r → (ks : Text) → AllByRecursion (λ k. k ≤ last) ks
    → list_any (eq_by_cmp nat_cmp r) ks ≡ false
unseen last r l [] h = refl
unseen last r l (k ∷ ks) h = grind (arith, or_from, untied, unseen last r l ks h.1)

nothing_bad : (c : ℕ) → IsBadBlock c false (body_of c [])
unfolding transform_of unicode_of
nothing_bad c = grind (arith, no_language, or_from, and-false)

-- ---- what the reader answers

-- the first bad block has the fault that the error names
abbrev pub IsRefused : Cursor → ParseError → Type 0
IsRefused l e = (f : Fault) × (first_fault languages [] (blocks (pieces_left l)) ≡ Some f) × (e ≡ error_of f)

module _ {l : Cursor} {old : Spans} {o : Bool} {at : Cursor} {last : ℕ} {now : Spans} {n : Bool}
    (h : IsAt l old o at last now n) where
  -- the byte of the singleton, its rank, and the pieces behind it
  abbrev pub byte_at : ℕ
  byte_at = slice_index (piece_left at) 0

  abbrev pub rank_at : ℕ
  rank_at = rank (to_ascii_lowercase byte_at)

  abbrev pub behind : List Text
  behind = rest_of (pieces_left at)

  -- the blocks before it, and it
  pub at_block : IsDone l old o ((byte_at ∷ []) ∷ behind) last now n
  at_block = rw (byte_first (pieces_left at) h.single) at h.before

  -- it is no letter or digit
  pub refuses_letter : is_ascii_alphanumeric byte_at ≡ false → IsRefused l InvalidExtension
  refuses_letter a = (faults.InvalidExtension, no_letter byte_at behind l old o last now n at_block a, refl)

  -- the next piece
  module _ {m : Cursor} (next : IsNextPiece at m) where
    same_behind : behind ≡ pieces_left m
    same_behind = ap rest_of next.pieces

    -- the text is the same
    pub same_text : whole_text m ≡ whole_text l
    same_text = (past_first (single_short (piece_left at) h.single) next).text ∙ h.text

    -- the bytes of the singleton
    pub spanned_at : IsSpanned (whole_text m) (at.at - 1) (m.at - 1) ((byte_at ∷ []) ∷ [])
    spanned_at = rw (past_first (single_short (piece_left at) h.single) next).text
        (subst (λ q. IsSpanned (whole_text at) (at.at - 1) (m.at - 1) (q ∷ []))
        (one_byte (piece_left at) h.single)
        (spanned_next h.later next (spanned_none at h.later)))

  module _ (letter : is_ascii_alphanumeric byte_at ≡ true) where
    -- whether the rank is among those of the blocks before
    abbrev pub IsSeen : Bool → Type 0
    IsSeen b = list_any (eq_by_cmp nat_cmp rank_at) (ranks at_block.done) ≡ b

    -- a search among the spans tells it
    pub seen : AreBegun (whole_text l) old → (r : ℕ) → r ≡ rank_at → (b : Bool)
        → IsTold now r b → IsSeen b
    seen begun r e b answer =
        rw e at (told l old o ((byte_at ∷ []) ∷ behind) last now n at_block begun r b answer)

    -- no block before has the rank, and if the order is still said to be that of the text, it is the greatest
    pub record IsFresh (p : Bool) : Type 0 where
      pub new : IsSeen false
      pub ordered : p ≡ true → (n ≡ true) × (last < rank_at)

    -- the search says so, and the order is given up
    pub fresh_told : AreBegun (whole_text l) old → (r : ℕ) → r ≡ rank_at → (b : Bool) → b ≡ false
        → IsTold now r b → (p : Bool) → p ≡ false → IsFresh p
    fresh_told begun r e b z answer p f =
        record { new = seen begun r e b answer ∙ z; ordered = λ t. absurd (true≢false (sym t ∙ f)) }

    -- or the rank is above the greatest
    pub fresh_above : (r : ℕ) → r ≡ rank_at → last < r → (p : Bool) → p ≡ n → IsFresh p
    fresh_above r e above p same = grind (arith, unseen, ranks)

    -- the singleton comes twice
    pub refuses_second : IsSeen true → IsRefused l DuplicatedExtension
    refuses_second s = (
      faults.DuplicatedExtension,
      is_second byte_at behind l old o last now n at_block letter s,
      refl,
    )

    -- nothing follows it
    pub refuses_end : IsSeen false → IsEnd at → IsRefused l InvalidExtension
    refuses_end new end = (
      faults.InvalidExtension,
      is_bad byte_at behind l old o last now n at_block letter new
          (rw (ap rest_of end.one) (nothing_bad byte_at)),
      refl,
    )

  -- it is a letter or digit, its rank is new, and what follows was read from m on
  pub record Passed (m : Cursor) (mid : Spans) (p k : Bool) : Type 0 where
    pub letter : is_ascii_alphanumeric byte_at ≡ true
    pub fresh : IsFresh letter p
    pub next : IsNextPiece at m

  module _ {m : Cursor} {mid : Spans} {p k : Bool} (x : Passed m mid p k) where
    -- what follows is bad
    pub refuses_bad : (j : Cursor) → IsBlockRead byte_at m j now mid p k Bad → IsRefused l InvalidExtension
    refuses_bad j r = (
      faults.InvalidExtension,
      is_bad byte_at behind l old o last now n at_block x.letter x.fresh.new
          (rw (same_behind x.next) (read_bad byte_at m j now mid p k r)),
      refl,
    )

    -- a variant is repeated
    pub refuses_repeated : (j : Cursor) → IsBlockRead byte_at m j now mid p k Repeated →
        IsRefused l InvalidSubtag
    refuses_repeated j r = (
      faults.InvalidSubtag,
      repeats byte_at behind l old o last now n at_block x.letter x.fresh.new
          (subst (λ qs. IsBadBlock byte_at true (body_of byte_at qs)) (sym (same_behind x.next))
          (read_repeated byte_at m j now mid p k r)),
      refl,
    )

    -- there is no room
    pub too_many : (j : Cursor) → IsBlockRead byte_at m j now mid p k Full
        → IsTooMuch old (length (pieces_left l))
    too_many j r = grind (arith, read_full)

    -- no more spans were put than pieces were passed
    pub passed_few : length (held_spans now) + (1 + length (pieces_left m))
        ≤ length (held_spans old) + length (pieces_left l)
    passed_few = grind arith

    -- the block is put behind the others, and rest follows
    pub stays_last : (rest : List Text) → IsRead byte_at (whole_text l) behind rest now mid p k → (r : ℕ)
        → r ≡ rank_at → last ≤ r → IsDone l old o rest r mid k
    stays_last rest read r e above = rw e (stays byte_at behind rest l old o last now mid n p k at_block
        x.letter x.fresh.new x.fresh.ordered
        read
        (subst (λ q. last ≤ q) e above))

    -- the block is placed before those of greater ranks
    pub comes_before : (rest : List Text) → IsRead byte_at (whole_text l) behind rest now mid p k → (r : ℕ)
        → r ≡ rank_at → r < last → (placed : Spans) → placed.count ≡ mid.count
        → IsPlaced now mid placed r → IsDone l old o rest last placed k
    comes_before rest read r e below placed count place =
        is_placed byte_at behind rest l old o last now mid n p k at_block x.letter x.fresh.new x.fresh.ordered
        read (rw e at below) placed count
        (rw e at place)

    read_here : (rest : List Text) → IsRead byte_at (whole_text m) (pieces_left m) rest now mid p k
        → IsRead byte_at (whole_text l) behind rest now mid p k
    read_here rest r = grind (arith, same_behind, same_text)

    -- the block is the last one
    pub ends_here : (j : Cursor) → IsBlockRead byte_at m j now mid p k End
        → IsRead byte_at (whole_text l) behind [] now mid p k
    ends_here j r = read_here [] (read_end byte_at m j now mid p k r)

    -- another one follows
    pub goes_on : (j : Cursor) → IsBlockRead byte_at m j now mid p k Next
        → IsRead byte_at (whole_text l) behind (pieces_left j) now mid p k
    goes_on j r = grind (arith, read_here, read_next)

    -- no span was lost
    pub grows : AreBegun (whole_text l) old → (rest : List Text)
        → IsRead byte_at (whole_text l) behind rest now mid p k → now.count ≤ mid.count
    grows begun rest r = grind (arith, groups_of, length-held, spell_length, length-append)

    -- its singleton is reached
    pub next_at : (j : Cursor) → IsBlockRead byte_at m j now mid p k Next → (top : ℕ) (placed : Spans)
        → IsDone l old o (pieces_left j) top placed k → IsAt l old o j top placed k
    next_at j r top placed d =
        let to = read_next byte_at m j now mid p k r in
        search same_text

    -- less is left
    pub less_at : (j : Cursor) → IsBlockRead byte_at m j now mid p k Next → j.remaining < at.remaining
    less_at j r = grind (arith, read_next)

-- at the first singleton
pub starts_at : (l : Cursor) (old : Spans) (o : Bool) → IsLater l →
    is_one_byte (piece_left l) ≡ true
    → IsAt l old o l 0 old o
starts_at l old o later single = search at_start
