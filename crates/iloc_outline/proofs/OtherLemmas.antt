-- Which pieces may follow `x`, and another singleton than `t` and `u`; and what their readers say.
use Rattle.std.proofs.Common.{◌≡◌, ◌≢◌, inl, inr, ℕ, ◌+◌, ◌-◌, ◌<◌, ◌==◌, Bool, true, false, not, cond, ◌&&◌, ◌||◌, List, [], ◌∷◌, ◌++◌, length, map, refl, sym, ap, ap₂, ◌∙◌, subst, arith, length-append, true≢false}
use Rattle.std.specs.Int.{is_in_range}
use Rattle.std.specs.List.{AllByRecursion, list_all, list_any}
use Rattle.std.specs.Char.{to_ascii_lowercase}
use Rattle.std.proofs.Math.Bool.{or-true, or-false}
use Rattle.std.proofs.lemmas.Bool.{and_parts, cases_Bool, or_parts, ne_eqb}
use Rattle.std.proofs.lemmas.List.Folds.{list_all-append, list_any-append}
use Rattle.iloc_spec_grammar.specs.Syntax.{Text, code_t, code_u, code_x, IsHyphenFree, Subtag, PrivateSubtag, is_word, IsWord, IsOther, IsPrivate, kept, languages, lower, front, first_piece, is_one_byte, is_other_singleton}
use Rattle.iloc_spec_grammar.specs.Tree.{Extension, unicode, transform, other, IsBlock, IsExtension, extension_pieces}
use Rattle.iloc_spec_grammar.specs.Computing.{is_block}
use Rattle.iloc_spec_grammar.proofs.PiecesLaws.{pieces_hyphen_free, pieces_nonempty}
use Rattle.iloc_spec_grammar.proofs.Readings.{IsLong, long_between}
use Rattle.iloc_spec_grammar.proofs.ReadBack.{all_append}
use Rattle.iloc_spec_grammar.proofs.RuleTests.{tests_all, tests_block, tests_fails, tests_word}
use Rattle.iloc_spec_grammar.proofs.Singletons.{no_t, no_u, no_x}
use Rattle.iloc_spec_grammar.proofs.ValuesLaws.{all_weaker, filter_all}
use Rattle.iloc_pieces.specs.Cursor.{IsEnd, IsLater, IsNextPiece, IsPast, IsSpanned, piece_left, pieces_left, bytes_left, whole_text}
use Rattle.iloc_outline.specs.Parts.{block_parts, printed_part, rank, singleton_part}
use Rattle.iloc_outline.specs.Reading.{IsBody, IsPrivateBody, IsPutOther, ReadsBlock, block_span}
use Rattle.iloc_spans.specs.Spans.{held_spans}
use Rattle.iloc_pieces.specs.declared.place.Cursor.{Cursor}
use Rattle.iloc_outline.specs.declared.reading.Found.{Found}
use Rattle.iloc_outline.specs.declared.reading.Found.TheVariants.{End, Next, Bad}
use Rattle.iloc_spans.specs.declared.spans.Spans.{Spans}
use Rattle.iloc_pieces.proofs.CursorLemmas.{between_short, past_next, pieces_end, short_private, spanned_end}
use Rattle.iloc_outline.proofs.SpansLemmas.{other_short}
use Rattle.iloc_outline.proofs.BodyLemmas.{front_each, front_ends, front_goes_on, front_whole, puts_one, puts_singleton, singleton_span}

-- ---- good and bad blocks

other_good : (c : ℕ) (ps : List Text) → is_other_singleton (to_ascii_lowercase c) ≡ true → IsOther ps
    → is_block languages (c, ps) ≡ true
other_good c ps h g = (tests_block languages (c, ps)).passes (inr (other ps, (h, g), refl))

other_bad : (c : ℕ) (ps : List Text) → is_other_singleton (to_ascii_lowercase c) ≡ true → ¬ (IsOther ps)
    → is_block languages (c, ps) ≡ false
other_bad c ps h bad = tests_fails (tests_block languages (c, ps)) none
  where
    extension : (x : Extension) → IsExtension languages (to_ascii_lowercase c) x → ps ≡ extension_pieces x → ⊥
    extension (unicode u) g cut = no_u (to_ascii_lowercase c) g.0 h
    extension (transform m) g cut = no_t (to_ascii_lowercase c) g.0 h
    extension (other qs) g cut = bad (subst IsOther (sym cut) g.1)

    none : ¬ (IsBlock languages (c, ps))
    none (inl g) = no_x (to_ascii_lowercase c) g.0 h
    none (inr (x, g, cut)) = extension x g cut

private_bad : (c : ℕ) (ps : List Text) → to_ascii_lowercase c ≡ code_x → ¬ (IsPrivate ps)
    → is_block languages (c, ps) ≡ false
private_bad c ps e bad = tests_fails (tests_block languages (c, ps)) none
  where
    extension : (x : Extension) → IsExtension languages (to_ascii_lowercase c) x → ⊥
    extension (unicode u) g = omega (arith, e, g.0)
    extension (transform m) g = omega (arith, e, g.0)
    extension (other qs) g = no_x (to_ascii_lowercase c) e g.0

    none : ¬ (IsBlock languages (c, ps))
    none (inl g) = bad g.1
    none (inr (x, g, cut)) = extension x g

-- the singleton and all that follows it are one part
parts_alone : (c : ℕ) (ps : List Text) → (to_ascii_lowercase c == code_t) ≡ false
    → (to_ascii_lowercase c == code_u) ≡ false → block_parts (c, ps) ≡ singleton_part c ps ∷ []
parts_alone c ps t u = rw (t, u)

-- ---- private subtags

-- from l to m all pieces are private subtags
pub record PassesPrivate (l m : Cursor) : Type 0 where
  pub words : List Text
  pub past : IsPast l m words
  pub each : AllByRecursion (IsWord PrivateSubtag) words

pub private_next : (l m k : Cursor) → PassesPrivate l m → IsWord PrivateSubtag (piece_left m)
    → IsNextPiece m k
    → PassesPrivate l k
private_next l m k h word next = record {
  words = h.words ++ (piece_left m ∷ []);
  past = past_next h.past (short_private (piece_left m) word) next;
  each = all_append (IsWord PrivateSubtag) h.words (piece_left m ∷ []) h.each (word, tt);
}

pub private_end : (c start : ℕ) (l m : Cursor) (old new : Spans) (o : Bool) → to_ascii_lowercase c ≡ code_x
    → IsLater l → IsSpanned (whole_text l) start (l.at - 1) ((c ∷ []) ∷ [])
    → PassesPrivate l m → IsWord PrivateSubtag (piece_left m) → IsEnd m
    → held_spans new ≡ held_spans old ++ block_span 255 start (m.at + m.piece_length) false ∷ [] →
    IsPrivateBody c l old new o o End
private_end c start l m old new o e later spanned h word end put =
    let all : pieces_left l ≡ h.words ++ (piece_left m ∷ []) = pieces_end h.past end in
    let each : AllByRecursion (IsWord PrivateSubtag) (pieces_left l) =
    rw all (all_append (IsWord PrivateSubtag) h.words (piece_left m ∷ []) h.each (word, tt)) in
    let some : 0 < length (pieces_left l) =
    omega (arith, ap length all, length-append h.words (piece_left m ∷ [])) in
    let whole : IsSpanned (whole_text l) start (m.at + m.piece_length) ((c ∷ []) ∷ pieces_left l) =
    rw all (spanned_end h.past end later spanned) in
    let known : is_other_singleton (to_ascii_lowercase c) ≡ false = ap is_other_singleton e in
    let place =
    rw (← (ap rank e)) at put in (
      ((tests_block languages (c, (pieces_left l))).passes
          (inl (e, (record { words = each; nonempty = some })))),
      rw (parts_alone c (pieces_left l) (ap (λ d. d == code_t) e) (ap (λ d. d == code_u) e))
          (search puts_singleton),
    )

pub private_odd : (c : ℕ) (l m : Cursor) (old new : Spans) (o : Bool) → to_ascii_lowercase c ≡ code_x
    → PassesPrivate l m → is_word PrivateSubtag (piece_left m) ≡ false → IsPrivateBody c l old new o o Bad
private_odd c l m old new o e h odd =
    private_bad c (pieces_left l) e
    (λ g. last_word h.words (pieces_left m) odd
    (rw h.past.pieces at g.words) (pieces_nonempty (bytes_left m)))
  where
    last_word : (ws qs : List Text) → is_word PrivateSubtag (first_piece qs) ≡ false
        → AllByRecursion (IsWord PrivateSubtag) (ws ++ qs) → qs ≢ [] → ⊥
    last_word [] [] odd each some = some refl
    last_word [] (q ∷ qs) odd each some = true≢false (sym each.0 ∙ odd)
    last_word (w ∷ ws) qs odd each some = last_word ws qs odd each.1 some

-- ---- other extensions

abbrev pub IsBetween : Text → Type 0
IsBetween p = is_in_range 2 8 (length p) ≡ true

-- all the pieces may stand in such a block; g says whether one is a subtag, and d whether one is none
pub record ArePieces (ps : List Text) (g d : Bool) : Type 0 where
  pub each : AllByRecursion IsBetween ps
  pub good : g ≡ list_any (is_word Subtag) ps
  pub edited : d ≡ not (list_all (is_word Subtag) ps)

-- from l to m there are such pieces
pub record PassesOther (l m : Cursor) (g d : Bool) : Type 0 where
  pub words : List Text
  pub past : IsPast l m words
  pub are : ArePieces words g d

-- ... and m is one of them
pub record PassesOneMore (l m : Cursor) (g d : Bool) : Type 0 where
  pub words : List Text
  pub past : IsPast l m words
  pub are : ArePieces (words ++ (piece_left m ∷ [])) g d

not_both : (a b : Bool) → (not a || not b) ≡ not (a && (b && true))
not_both true true = refl
not_both _ _ = refl

one_more : (ps : List Text) (p : Text) (g d : Bool) → ArePieces ps g d → IsBetween p
    → ArePieces (ps ++ (p ∷ [])) (g || is_word Subtag p) (d || not (is_word Subtag p))
one_more ps p g d h b = grind (arith, all_append, ap₂, or-false, list_any-append, not_both, list_all-append)

-- m is a subtag, or none
pub more_subtag : (l m : Cursor) (g d : Bool) → PassesOther l m g d → IsBetween (piece_left m)
    → is_word Subtag (piece_left m) ≡ true → PassesOneMore l m true d
more_subtag l m g d h b e = record {
  words = h.words;
  past = h.past;
  are = subst (λ x. ArePieces (h.words ++ (piece_left m ∷ [])) x d) (ap (λ x. g || x) e ∙ or-true g)
      (rw (ap (λ x. d || not x) e ∙ or-false d) at (one_more h.words (piece_left m) g d h.are b));
}

pub more_odd : (l m : Cursor) (g d : Bool) → PassesOther l m g d → IsBetween (piece_left m)
    → is_word Subtag (piece_left m) ≡ false → PassesOneMore l m g true
more_odd l m g d h b e = record {
  words = h.words;
  past = h.past;
  are = subst (λ x. ArePieces (h.words ++ (piece_left m ∷ [])) x true) (ap (λ x. g || x) e ∙ or-false g)
      (rw (ap (λ x. d || not x) e ∙ or-true d) at (one_more h.words (piece_left m) g d h.are b));
}

pub other_next : (l m k : Cursor) (g d : Bool) → PassesOneMore l m g d → IsBetween (piece_left m) →
    IsNextPiece m k
    → PassesOther l k g d
other_next l m k g d h b next = search (past_next, between_short)

-- ---- what is printed of them

printed_other : (c : ℕ) (ps : List Text) → list_all (is_word Subtag) ps ≡ true
    → printed_part (singleton_part c ps) ≡ map lower ((c ∷ []) ∷ ps)
printed_other c ps all =
    let each = (tests_all (is_word Subtag) (IsWord Subtag) (tests_word Subtag) ps).holds all in
    grind (arith, filter_all)
  where
    both : (b : Bool) → lower (c ∷ []) ∷ cond b (map lower ps) (map lower ps) ≡ map lower ((c ∷ []) ∷ ps)
    both true = refl
    both false = refl

some_kept : (ps : List Text) → list_any (is_word Subtag) ps ≡ true → 0 < length (kept ps)
some_kept [] h = absurd (true≢false (sym h))
some_kept (p ∷ ps) h = grind (arith, some_kept ps)

none_kept : (ps : List Text) → list_any (is_word Subtag) ps ≡ false → kept ps ≡ []
none_kept [] h = refl
none_kept (p ∷ ps) h = let parts = or_parts (is_word Subtag p) _ h in rw parts.0 (none_kept ps parts.1)

-- ---- what the reader says

-- the same of the singleton as it is written, and of what was before the walk
pub put_at : (c b start end : ℕ) (d : Bool) (old mid new : Spans) (o m n : Bool) (good r : Found)
    → to_ascii_lowercase c ≡ b → mid ≡ old → m ≡ o
    → IsPutOther (block_span b start end d) mid new m n good r
    → IsPutOther (block_span (to_ascii_lowercase c) start end d) old new o n good r
put_at c b start end d old mid new o m n good r e f g h = grind arith

module _ (c : ℕ) (l : Cursor) (other : is_other_singleton (to_ascii_lowercase c) ≡ true) where
  no_t_of_other : (P : Type 0) → ¬ ((to_ascii_lowercase c ≡ code_t) × P)
  no_t_of_other P h = no_t (to_ascii_lowercase c) h.0 other

  bad_other : (k : Cursor) (old new : Spans) (o n : Bool) → ¬ (IsOther (front (pieces_left l)))
      → IsBody c l k old new o n Bad
  bad_other k old new o n bad = search (other_bad, no_t_of_other)

  -- none is a subtag
  none_good : (ps : List Text) → list_any (is_word Subtag) ps ≡ false → ¬ (IsOther ps)
  none_good ps h g = omega (arith, g.nonempty, ap length (none_kept ps h))

  long_pieces : (ps : List Text) → AllByRecursion IsBetween ps → AllByRecursion IsLong ps
  long_pieces ps h = all_weaker IsBetween IsLong long_between ps h

  -- such pieces were put
  good_other : (start end : ℕ) (ps : List Text) (d : Bool) (old new : Spans) (o n : Bool)
      → ArePieces ps true d → IsSpanned (whole_text l) start end ((c ∷ []) ∷ ps) → front (pieces_left l) ≡ ps
      → held_spans new ≡ held_spans old ++ block_span (to_ascii_lowercase c) start end d ∷ []
      → (n ≡ true → (o ≡ true) × (d ≡ false)) → ReadsBlock c l ps old new o n
  good_other start end ps d old new o n are spanned body put order =
      let place =
      rw (← own_rank) at put
      in
      let free : AllByRecursion IsHyphenFree ps =
      rw body at (front_each IsHyphenFree (pieces_left l) (pieces_hyphen_free (bytes_left l))) in
      let letter = (and_parts _ _ other).0 in
      let same : d ≡ false → printed_part (singleton_part c ps) ≡ map lower ((c ∷ []) ∷ ps) =
      λ e. printed_other c ps (both_ways (list_all (is_word Subtag) ps) (sym are.edited ∙ e)) in
      record {
        body = body;
        good = other_good c ps other (record { lengths = are.each; nonempty = some_kept ps (sym are.good) });
        puts = rw (parts_alone c ps no_t_byte no_u_byte)
            (puts_one (whole_text l) _ (singleton_part c ps) old new o n place
            (singleton_span (whole_text l) c start end ps d spanned same
            (λ _. other_short c ps letter free are.each)) (omega arith)
            (λ e. let h = order e in (h.0, same h.1)));
      }
    where
      no_t_byte : (to_ascii_lowercase c == code_t) ≡ false
      no_t_byte = ne_eqb _ _ (λ e. no_t (to_ascii_lowercase c) e other)

      no_u_byte : (to_ascii_lowercase c == code_u) ≡ false
      no_u_byte = ne_eqb _ _ (λ e. no_u (to_ascii_lowercase c) e other)

      no_x_byte : (to_ascii_lowercase c == code_x) ≡ false
      no_x_byte = ne_eqb _ _ (λ e. no_x (to_ascii_lowercase c) e other)

      own_rank : rank (to_ascii_lowercase c) ≡ to_ascii_lowercase c
      own_rank = rw no_x_byte

      both_ways : (b : Bool) → not b ≡ false → b ≡ true
      both_ways true h = refl
      both_ways false h = absurd (true≢false h)

  -- the last piece is reached
  module _ (m : Cursor) (g d : Bool) (h : PassesOneMore l m g d) (end : IsEnd m) where
    all_pieces : pieces_left l ≡ h.words ++ (piece_left m ∷ [])
    all_pieces = pieces_end h.past end

    whole_body : front (pieces_left l) ≡ pieces_left l
    whole_body = front_whole (pieces_left l)
        (rw all_pieces (long_pieces _ h.are.each))

    pub end_bad : (old new : Spans) (o n : Bool) → g ≡ false → IsBody c l m old new o n Bad
    end_bad old new o n e =
        bad_other m old new o n
        (rw (sym (whole_body ∙ all_pieces)) at (none_good _ (sym h.are.good ∙ e)))

    pub end_put : (start : ℕ) (old new : Spans) (o n : Bool) (r : Found) → g ≡ true → IsLater l
        → IsSpanned (whole_text l) start (l.at - 1) ((c ∷ []) ∷ [])
        → IsPutOther (block_span (to_ascii_lowercase c) start (m.at + m.piece_length) d) old new o n End r
        → IsBody c l m old new o n r
    end_put start old new o n r e later spanned (inl full) = grind arith
    end_put start old new o n r e later spanned (inr put) =
        let spans : IsSpanned (whole_text l) start (m.at + m.piece_length) ((c ∷ []) ∷ pieces_left l) =
        rw all_pieces (spanned_end h.past end later spanned) in
        let are : ArePieces (pieces_left l) true d =
        subst (λ ps. ArePieces ps true d) (sym all_pieces)
        (rw e at h.are) in
        rw put.0 (search (good_other, whole_body))

  -- a piece of another length is reached
  module _ (m : Cursor) (g d : Bool) (h : PassesOther l m g d) where
    next_none : (old new : Spans) (o n : Bool) → is_one_byte (piece_left m) ≡ true → g ≡ false
        → IsBody c l m old new o n Bad
    next_none old new o n one e =
        bad_other m old new o n
        (grind (arith, front_ends, long_pieces, none_good))

    pub next_odd : (old new : Spans) (o n : Bool) → is_in_range 2 8 (length (piece_left m)) ≡ false
        → is_one_byte (piece_left m) ≡ false → IsBody c l m old new o n Bad
    next_odd old new o n odd longer =
        let body = front_goes_on l m h.words h.past.pieces (long_pieces h.words h.are.each) longer in
        bad_other m old new o n
        (λ b. true≢false (sym (last_of h.words body.0 (rw body.1 at b.lengths))
        ∙ odd))
      where
        last_of : (ws qs : List Text) → AllByRecursion IsBetween (ws ++ (piece_left m ∷ qs))
            → IsBetween (piece_left m)
        last_of [] qs each = each.0
        last_of (w ∷ ws) qs each = last_of ws qs each.1

    pub next_bad : (old new : Spans) (o n : Bool) → is_in_range 2 8 (length (piece_left m)) ≡ false →
        g ≡ false
        → IsBody c l m old new o n Bad
    next_bad old new o n odd e =
        elim (cases_Bool (is_one_byte (piece_left m)))
        [ inl one ↦ next_none old new o n one e | inr longer ↦ next_odd old new o n odd longer ]

    pub next_put : (start : ℕ) (old new : Spans) (o n : Bool) (r : Found) → is_one_byte (piece_left m) ≡ true
        → g ≡ true → IsLater l → IsSpanned (whole_text l) start (l.at - 1) ((c ∷ []) ∷ [])
        → IsPutOther (block_span (to_ascii_lowercase c) start (m.at - 1) d) old new o n Next r
        → IsBody c l m old new o n r
    next_put start old new o n r one e later spanned (inl full) = grind arith
    next_put start old new o n r one e later spanned (inr put) =
        let body = front_ends l m h.words h.past.pieces (long_pieces h.words h.are.each) one in
        let are = rw e at h.are in
        rw put.0 (
          h.words,
          h.past,
          one,
          good_other start (m.at - 1) h.words d old new o n are
              (h.past.spanned later start ((c ∷ []) ∷ []) spanned) body put.1 put.2,
        )
