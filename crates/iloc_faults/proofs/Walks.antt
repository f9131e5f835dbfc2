-- What the walk over the pieces of a text says.
use Rattle.std.proofs.Common.{◌≡◌, ◌≢◌, inl, inr, ℕ, zero, suc, ◌+◌, ◌-◌, ◌<◌, ◌≤◌, true, false, List, [], ◌∷◌, ◌++◌, length, get_or, Option, Some, None, refl, sym, ap, ◌∙◌, arith, append_assoc, append-nil, length-append}
use Rattle.std.proofs.lemmas.Bool.{cases_Bool, eq-eqb, ne_eqb}
use Rattle.std.proofs.lemmas.List.{get_or-take, get_or-drop}
use Rattle.std.proofs.lemmas.List.Concat.{flat_map-append}
use Rattle.iloc_spec_grammar.specs.Syntax.{Text, Language, languages, is_word, is_one_byte, pieces, first_piece}
use Rattle.iloc_spec_grammar.specs.Meaning.{InvalidExtension}
use Rattle.iloc_subtags.specs.Judging.{error_of}
use Rattle.iloc_pieces.specs.Cursor.{IsNextPiece, piece_left, pieces_left, bytes_left}
use Rattle.iloc_pieces.specs.declared.place.Cursor.{Cursor}
use Rattle.iloc_pieces.proofs.CursorLemmas.{length_rest, next_at, last_piece}
use Rattle.iloc_normalize.specs.declared.Mode.{Mode}
use Rattle.iloc_normalize.specs.declared.Mode.TheVariants.{Langid}
use Rattle.iloc_faults.specs.declared.Fault.{Fault}
use Rattle.iloc_faults.specs.declared.state.Part.TheVariants.{Start, Head}
use Rattle.iloc_faults.specs.declared.state.Stage.{Stage}
use Rattle.iloc_faults.specs.declared.state.Stage.TheVariants as stages
use Rattle.iloc_faults.specs.declared.state.State.{State}
use Rattle.iloc_faults.specs.Next.{Reached, started, may_end, next, piece_fault, begins_block, outcome, run, word_next}
use Rattle.iloc_faults.specs.States.{IsPieceRead, IsWordRead, IsWalked, IsFaultFound, bare, reached}
use Rattle.iloc_faults.proofs.Going.{run_append, verdict_run, goes_on, goes_no_longer}
use Rattle.iloc_faults.proofs.Bits.{none_seen}
use Rattle.iloc_faults.proofs.StepReadings.{head_read, inside_read, start_read}
use Rattle.iloc_faults.proofs.VariantsLeft.{some_left}
use Rattle.iloc_pieces.proofs.FrontLemmas.{first_onto}

-- ---- where a piece ends

-- the first piece is as long as no hyphen comes
first_long : (t : Text) (n : ℕ) → n ≤ length t → ((k : ℕ) → k < n → get_or t k 0 ≢ 45) →
    (n < length t → get_or t n 0 ≡ 45) → length (first_piece (pieces t)) ≡ n
unfolding pieces
first_long [] n l none ends = omega arith
first_long (c ∷ t) zero l none ends = grind (arith, eq-eqb)
first_long (c ∷ t) (suc n) l none ends =
    let e = ne_eqb c 45 (none 0 (omega arith)) in
    grind (
      arith,
      first_long t n (omega arith) (λ k m. none (suc k) (omega arith)) (λ m. ends (omega arith)),
      first_onto,
    )

-- from the piece on, no hyphen comes before the end
pub record IsScanned (l : Cursor) (end : ℕ) : Type 0 where
  pub from : l.at ≤ end
  pub to : end ≤ l.at + l.remaining
  pub none : (k : ℕ) → k < end - l.at → get_or l.window.now (l.at + k) 0 ≢ 45

module _ (l : Cursor) where
  byte_is : (k : ℕ) → k < l.remaining → get_or (bytes_left l) k 0 ≡ get_or l.window.now (l.at + k) 0
  byte_is k less = grind (arith, get_or-take, get_or-drop)

  pub scan_ends : (end : ℕ) → IsScanned l end → (end < l.at + l.remaining → get_or l.window.now end 0 ≡ 45) →
      end ≡ l.at + length (piece_left l)
  scan_ends end s ends =
      let f = s.from in
      let t = s.to in
      let r = length_rest l in
      let n : length (piece_left l) ≡ end - l.at = first_long (bytes_left l) (end - l.at) (omega arith)
      (λ k less e. s.none k less (sym (byte_is k (omega arith)) ∙ e))
      (grind (arith, byte_is, get_or)) in
      omega arith

-- ---- the walk

-- all of them came
pub record IsAll (mode : Mode) (t : Text) (s : State) : Type 0 where
  pub variants : List Text
  pub seen : Text
  pub ran : run mode (Some started) (pieces t) ≡ Some (reached s.part variants seen)

pub walk_starts : (mode : Mode) (t : Text) (at : Cursor) → at.at ≡ 0 → bytes_left at ≡ t →
    IsWalked mode t at (record { part = Start; variants = None; seen = 0 })
walk_starts mode t at e b = record {
  done = [];
  variants = [];
  seen = [];
  start = e;
  cut = ap pieces (sym b);
  ran = refl;
  read = record { seen_are = none_seen; variants_are = refl; early = tt };
}

-- nothing was read, and so the piece may not come next
pub none_else : (mode : Mode) (at : Cursor) (o : Option Reached) (r : Option State) →
    ((s : State) → r ≢ Some s) →
    IsPieceRead mode at o r → o ≡ None
none_else mode at o r h k = grind arith

module _ {mode : Mode} {t : Text} {at : Cursor} {s : State} (w : IsWalked mode t at s) where
  -- what was read
  abbrev now : Reached
  now = reached s.part w.variants w.seen

  -- one piece more
  ran_one : (o : Option Reached) → next mode now (piece_left at) ≡ o →
      run mode (Some started) (w.done ++ (piece_left at ∷ [])) ≡ run mode o []
  ran_one o e = grind (arith, run_append)

  one_cut : (rest : List Text) → pieces_left at ≡ piece_left at ∷ rest →
      pieces t ≡ (w.done ++ (piece_left at ∷ [])) ++ rest
  one_cut rest e = grind (arith, append_assoc)

  -- the piece may not come next
  pub walk_stops : next mode now (piece_left at) ≡ None → (f : Fault) →
      f.refusal ≡ error_of (piece_fault mode s.part (piece_left at)) → f.start ≡ at.at →
      f.end ≡ at.at + length (piece_left at) → IsFaultFound mode t f
  walk_stops e f r a b = let rest = some_left at in record {
    fault = piece_fault mode s.part (piece_left at);
    has = ap (outcome mode started) (w.cut ∙ ap (λ ps. w.done ++ ps) rest.1)
        ∙ verdict_run mode started now w.done (piece_left at ∷ rest.0) w.ran ∙ stops rest.0;
    refusal = r;
    place = inl (record {
      before = w.done;
      piece = piece_left at;
      after = rest.0;
      cut = w.cut ∙ ap (λ ps. w.done ++ ps) rest.1;
      go_on = goes_on mode t w.done (pieces_left at) now w.cut w.ran;
      no_longer = goes_no_longer mode (w.done ++ (piece_left at ∷ [])) (ran_one None e);
      from = a ∙ w.start;
      to = b ∙ ap (λ n. n + length (piece_left at)) (sym a);
    });
  }
    where
      stops : (rest : List Text) →
          outcome mode now (piece_left at ∷ rest) ≡ Some (piece_fault mode s.part (piece_left at))
      stops rest = rw e refl

  -- it may, and another follows
  pub walk_on : {m : Cursor} (q : State) → IsPieceRead mode at (next mode now (piece_left at)) (Some q) →
      IsNextPiece at m → IsWalked mode t m q
  walk_on {m = m} q r n = record {
    done = w.done ++ (piece_left at ∷ []);
    variants = r.0;
    seen = r.1;
    start = grind (arith, next_at, flat_map-append, length-append);
    cut = one_cut (pieces_left m) n.pieces;
    ran = ran_one (Some (reached q.part r.0 r.1)) r.2;
    read = r.4 m n;
  }

  -- it may, and is the last one
  pub walk_all : (q : State) → IsPieceRead mode at (next mode now (piece_left at)) (Some q)
      → at.piece_length ≡ at.remaining →
      IsAll mode t q
  walk_all q r e =
      let end = last_piece at e r.3 in
      record {
        variants = r.0;
        seen = r.1;
        ran = ap (run mode (Some started)) (one_cut [] end.one ∙ append-nil (w.done ++ (piece_left at ∷ [])))
            ∙ ran_one (Some (reached q.part r.0 r.1)) r.2;
      }

module _ {mode : Mode} {t : Text} {s : State} (w : IsAll mode t s) where
  last_verdict : outcome mode started (pieces t) ≡ outcome mode (reached s.part w.variants w.seen) []
  last_verdict = ap (outcome mode started) (sym (append-nil (pieces t)))
      ∙ verdict_run mode started (reached s.part w.variants w.seen) (pieces t) [] w.ran

  pub all_good : may_end s.part ≡ true → outcome mode started (pieces t) ≡ None
  all_good e = last_verdict ∙ rw e refl

  pub all_short : may_end s.part ≡ false → (f : Fault) → f.refusal ≡ error_of InvalidExtension →
      f.start ≡ length t → f.end ≡ length t → IsFaultFound mode t f
  all_short e f r a b = record {
    fault = InvalidExtension;
    has = last_verdict ∙ rw e refl;
    refusal = r;
    place = inr (record {
      go_on =
          goes_on mode t (pieces t) [] (reached s.part w.variants w.seen) (sym (append-nil (pieces t))) w.ran;
      from = a;
      to = b;
    });
  }

-- ---- the first piece, a language

module _ (mode : Mode) (t : Text) (at : Cursor) (zero : at.at ≡ 0) (whole : bytes_left at ≡ t)
    (begins : is_word (Language languages) (first_piece (pieces t)) ≡ true) where
  language : is_word (Language languages) (piece_left at) ≡ true
  language = grind arith

  no_block : begins_block Start (piece_left at) ≡ false
  no_block = grind arith

  -- it may come
  pub language_came :
      IsPieceRead mode at (next mode started (piece_left at)) (Some (bare 0 (Head stages.Language)))
  language_came = inside_read mode at Start [] [] no_block (Some (bare 0 (Head stages.Language)))
      (start_read mode at Start [] [] 0 none_seen refl (Some (bare 0 (Head stages.Language)))
      (rw language refl))

  -- and the text may end
  pub alone_good : at.piece_length ≡ at.remaining → outcome mode started (pieces t) ≡ None
  unfolding walk_starts
  alone_good all = all_good
      (walk_all (walk_starts mode t at zero whole) (bare 0 (Head stages.Language)) language_came all) refl

  -- or another follows
  pub walked_behind : (m : Cursor) → IsNextPiece at m → IsWalked mode t m (bare 0 (Head stages.Language))
  unfolding walk_starts
  walked_behind m follows =
      walk_on (walk_starts mode t at zero whole) (bare 0 (Head stages.Language)) language_came follows

-- ---- words behind a language

-- the stage of an identifier, and what of it was read
abbrev pub words : Stage → Option ℕ → State
words stage variants = record { part = Head stage; variants = variants; seen = 0 }

-- nothing was read, and so no word may come
pub no_word_else : (at : Cursor) (o : Option (Stage × List Text)) (r : Option (Stage × Option ℕ)) →
    ((w : Stage × Option ℕ) → r ≢ Some w) → IsWordRead Langid at o r → o ≡ None
no_word_else at o r h k = grind arith

-- a piece of one byte is no word
pub no_word : (stage : Stage) (vs : List Text) (p : Text) → is_one_byte p ≡ true →
    word_next Langid stage vs p ≡ None
unfolding is_word
no_word stage vs p h = grind arith

module _ {t : Text} {at : Cursor} {stage : Stage} {variants : Option ℕ}
    (w : IsWalked Langid t at (words stage variants)) where
  -- no word may come, and so no piece
  pub word_stops : word_next Langid stage w.variants (piece_left at) ≡ None →
      next Langid (reached (Head stage) w.variants w.seen) (piece_left at) ≡ None
  word_stops none = grind arith

  -- the word came
  pub word_came : (r : Stage × Option ℕ) →
      IsWordRead Langid at (word_next Langid stage w.variants (piece_left at)) (Some r) →
      IsPieceRead Langid at (next Langid (reached (Head stage) w.variants w.seen) (piece_left at))
      (Some (words r.0 r.1))
  word_came r h = grind (arith, cases_Bool, no_word, head_read)
