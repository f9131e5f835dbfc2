-- Words are passed one after another, and each is put where it belongs.
use Rattle.std.proofs.Common.{◌≡◌, ◌⊎◌, ◌+◌, ◌≤◌, ℕ, Bool, true, false, ◌||◌, List, [], ◌∷◌, ◌++◌, length, map, sym, ap, ◌∙◌, refl, subst, arith, inl, inr, length-append, true≢false}
use Rattle.std.specs.List.{AllByRecursion, list_any}
use Rattle.std.specs.Ordering.{nat_cmp, eq_by_cmp, is_eq}
use Rattle.std.proofs.lemmas.Bool.{or_cases, or_left, or_right}
use Rattle.std.proofs.lemmas.List.{length-map, map-append}
use Rattle.std.proofs.lemmas.List.Folds.{list_any-append}
use Rattle.std.proofs.lemmas.Simd.{map-map}
use Rattle.iloc_spec_grammar.specs.Syntax.{Text, AllDifferent, IsAmong, IsWord, is_word, lower, word_cmp}
use Rattle.iloc_spec_grammar.proofs.ReadBack.{all_append}
use Rattle.iloc_spec_grammar.proofs.ReadingLaws.{keep_all, keep_while_passes}
use Rattle.iloc_spec_grammar.proofs.ValuesLaws.{all_weaker}
use Rattle.iloc_outline.specs.Gathering.{Gathers, Walks, pieces_in}
use Rattle.iloc_spans.specs.Inserting.{IsPutFrom}
use Rattle.iloc_pieces.specs.Cursor.{IsLater, IsNextPiece, piece_left, pieces_left, whole_text}
use Rattle.iloc_pieces.specs.Words.{IsUpToEight, word_number}
use Rattle.iloc_outline.specs.Parts.{Part, word_part}
use Rattle.iloc_outline.specs.Reading.{IsOfWord, IsTooMuch, MayBe, ReadsWords, role_kind, words_of}
use Rattle.iloc_outline.specs.Spans.{IsSpan}
use Rattle.iloc_spans.specs.Spans.{held_spans}
use Rattle.iloc_pieces.specs.declared.place.Cursor.{Cursor}
use Rattle.iloc_spans.specs.declared.inserting.Inserted.{Inserted}
use Rattle.iloc_spans.specs.declared.inserting.Inserted.TheVariants.{Put, There}
use Rattle.iloc_spans.specs.declared.span.Role.{Role}
use Rattle.iloc_spans.specs.declared.span.Role.TheVariants as roles
use Rattle.iloc_spans.specs.declared.span.Span.{Span}
use Rattle.iloc_spans.specs.declared.spans.Spans.{Spans}
use Rattle.iloc_outline.proofs.GatherLemmas.{gathers_few, gathers_none, gathers_put, gathers_puts, gathers_there}
use Rattle.iloc_pieces.proofs.CursorLemmas.{last_piece, past_next, past_none, pieces_end}
use Rattle.iloc_outline.proofs.RoleLemmas.{short_kind}
use Rattle.iloc_spans.proofs.HeldLemmas.{length-held}
use Rattle.iloc_outline.proofs.WordLemmas.{ends_before, length-pieces_of, passing_cut, passing_more, span_of, word_fits, word_next, word_span}
use Rattle.iloc_pieces.proofs.WordOrder.{word_order}

-- ---- words differ where their numbers do

among : (p : Text) (ps : List Text) → IsUpToEight p → AllByRecursion IsUpToEight ps
    → list_any (eq_by_cmp nat_cmp (word_number p)) (map word_number ps)
    ≡ list_any (eq_by_cmp word_cmp (lower p)) (map lower ps)
among p [] h k = refl
among p (q ∷ ps) h k = λ j. is_eq (word_order p q h k.0 j) || among p ps h k.1 j

words_differ : (ps : List Text) → AllByRecursion IsUpToEight ps → AllDifferent nat_cmp (map word_number ps)
    → AllDifferent word_cmp (map lower ps)
words_differ [] k d = tt
words_differ (p ∷ ps) k d = grind (arith, among, words_differ ps k.1 d.1)

numbers_differ : (ps : List Text) → AllByRecursion IsUpToEight ps → AllDifferent word_cmp (map lower ps)
    → AllDifferent nat_cmp (map word_number ps)
numbers_differ [] k d = tt
numbers_differ (p ∷ ps) k d = grind (arith, among, numbers_differ ps k.1 d.1)

-- variants whose numbers differ are as they may be
may_be : (r : Role) (ps : List Text) → AllByRecursion IsUpToEight ps
    → (r ≡ roles.Variant → AllDifferent nat_cmp (map word_number ps)) → MayBe r ps
may_be roles.Variant ps k d = words_differ ps k (d refl)
may_be _ ps k d = tt

-- ---- one number more

-- equal keys are equal numbers
equal_keys : (a b : ℕ) → eq_by_cmp nat_cmp a b ≡ true → eq_by_cmp nat_cmp b a ≡ true
equal_keys a b e = grind (arith, true≢false)

different_more : (ks : Text) (k : ℕ) → AllDifferent nat_cmp ks → ¬ (IsAmong nat_cmp k ks)
    → AllDifferent nat_cmp (ks ++ k ∷ [])
different_more [] k d a = ((λ e. true≢false (sym e)), tt)
different_more (j ∷ ks) k d a = grind (
  arith,
  or_cases,
  list_any-append,
  or_left,
  equal_keys,
  true≢false,
  or_right,
  different_more ks k d.1 (λ e. a (or_right _ _ e)),
)

not_different : (ks more : Text) (k : ℕ) → IsAmong nat_cmp k ks → ¬ (AllDifferent nat_cmp (ks ++ k ∷ more))
not_different [] more k a d = true≢false (sym a)
not_different (j ∷ ks) more k a d = elim (or_cases _ _ a) [
  | inl u ↦ d.0 (list_any-append (eq_by_cmp nat_cmp j) ks (k ∷ more)
      ∙ or_right _ _ (or_left _ _ (equal_keys k j u)))
  | inr u ↦ not_different ks more k u d.1
]

-- ---- the words that come first

pieces_words : (r : Role) (ps : List Text) → pieces_in (map (word_part r) ps) ≡ ps
pieces_words r [] = refl
pieces_words r (p ∷ ps) = ap (λ l. p ∷ l) (pieces_words r ps)

numbers_words : (r : Role) (ps : List Text) → map (λ p. p.word) (map (word_part r) ps) ≡ map word_number ps
numbers_words r ps = map-map (λ p. p.word) (word_part r) ps

pub walks_none : (r : Role) (l : Cursor) → IsLater l → (s : List Span) (o : Bool) →
    Walks r l l s s 0 o o
walks_none r l k s o = search (past_none, gathers_none)

-- words that were put in order are read
walked : (r : Role) (l : Cursor) (ps : List Text) (old new : Spans) (last : ℕ) (o n : Bool)
    → ps ≡ words_of r (pieces_left l) → AllByRecursion (IsWord (role_kind r)) ps
    → Gathers (whole_text l) (map (word_part r) ps) (held_spans old) (held_spans new) last o n
    → (r ≡ roles.Variant → AllDifferent nat_cmp (map word_number ps)) → ReadsWords r l ps old new o n
walked r l ps old new last o n e each g d = record {
  words = e;
  may_be = may_be r ps (all_weaker (IsWord (role_kind r)) IsUpToEight (word_fits r) ps each) d;
  puts = gathers_puts _ _ _ _ _ _ _ g old new refl refl ps (pieces_words r ps)
      (omega (arith, length-map ps (word_part r)));
}

-- a word was put, or is there already and no variant
abbrev pub IsKept : Role → Inserted → Type 0
IsKept r i = (i ≡ Put) ⊎ (i ≡ There) × (r ≡ roles.Variant → ⊥)

module _ (r : Role) (l at : Cursor) (old : Spans) (mid : List Span) (last : ℕ) (o n : Bool)
    (w : Walks r l at (held_spans old) mid last o n) where
  -- where no word comes next
  pub walks_past : (new : Spans) → mid ≡ held_spans new → is_word (role_kind r) (piece_left at) ≡ false
      → ReadsWords r l w.words old new o n
  walks_past new e none =
      let k = role_kind r in
      let cut = passing_cut (is_word k) w.words (pieces_left at) w.each (ends_before k at none) in
      walked r l w.words old new last o n (sym (ap (words_of r) w.past.pieces ∙ cut)) w.each
      (rw e at w.gathers)
      w.differ

  -- no more spans were put than pieces were passed
  pub walks_few : length mid + length (pieces_left at) ≤ length (held_spans old) + length (pieces_left l)
  walks_few =
      omega (
        arith,
        gathers_few _ _ _ _ _ _ _ w.gathers,
        length-map w.words (word_part r),
        ap length w.past.pieces,
        length-append w.words (pieces_left at),
      )

  -- where there is no room
  pub walks_full : 64 ≤ length mid → IsTooMuch old (length (pieces_left l))
  walks_full full =
      omega (
        arith,
        full,
        gathers_few _ _ _ _ _ _ _ w.gathers,
        length-map w.words (word_part r),
        ap length w.past.pieces,
        length-append w.words (pieces_left at),
        length-pieces_of at,
      )

  module _ (role : IsOfWord r) (word : IsWord (role_kind r) (piece_left at)) (new : List Span) (k : Bool)
      (m now : ℕ)
      (e : m ≡ word_number (piece_left at)) where
    abbrev more : List Text
    more = w.words ++ piece_left at ∷ []

    abbrev parts : List Part
    parts = map (word_part r) w.words

    span : IsSpan (whole_text l) (span_of r m at) (word_part r (piece_left at))
    span =
        rw w.past.text at (word_span r role at w.past.later word m e)

    abbrev IsNow : Inserted → Type 0
    IsNow i = IsPutFrom old.count (span_of r m at) mid new last now n k i

    counted : (i : Inserted) → IsNow i
        → IsPutFrom (length (held_spans old)) (span_of r m at) mid new last now n k i
    counted i = search (span_of, length-held)

    -- where a number is there, words are not all different
    pub walks_repeat : (i : Inserted) → IsNow i → i ≡ There
        → ¬ (AllDifferent word_cmp (map lower (words_of r (pieces_left l))))
    walks_repeat i h is d =
        let g = gathers_there _ parts (held_spans old) mid last o n w.gathers new now k _ _ span
        (counted There (subst IsNow is h)) in
        let eights : AllByRecursion IsUpToEight (words_of r (pieces_left l)) =
        grind (arith, all_weaker, word_fits, keep_while_passes) in
        grind (arith, word_next, not_different, numbers_words, passing_more, map-append, numbers_differ)

    each_more : AllByRecursion (IsWord (role_kind r)) more
    each_more = all_append (IsWord (role_kind r)) w.words (piece_left at ∷ []) w.each (word, tt)

    numbers_more : map word_number w.words ++ word_number (piece_left at) ∷ [] ≡ map word_number more
    numbers_more = sym (map-append word_number w.words (piece_left at ∷ []))

    -- the word was put, or is there and may be
    module _ (i : Inserted) (h : IsNow i) (may : IsKept r i) where
      gathered : Gathers (whole_text l) (map (word_part r) more) (held_spans old) new now o k
      gathered =
          rw (map-append (word_part r) w.words (piece_left at ∷ [])) (elim may [
            | inl is ↦
                (gathers_put _ parts (held_spans old) mid last o n w.gathers new now k _ _ span
                (counted Put (subst IsNow is h))).0
            | inr b ↦
                (gathers_there _ parts (held_spans old) mid last o n w.gathers new now k _ _ span
                (counted There (subst IsNow b.0 h))).0
          ])

      differ_more : r ≡ roles.Variant → AllDifferent nat_cmp (map word_number more)
      differ_more v = elim may [
        | inl is ↦
            let g = gathers_put _ parts (held_spans old) mid last o n w.gathers new now k _ _ span
            (counted Put (subst IsNow is h)) in
            grind (arith, numbers_more, different_more, numbers_words)
        | inr b ↦ absurd (b.1 v)
      ]

      -- one word more
      pub walks_more : (next : Cursor) → IsNextPiece at next → Walks r l next (held_spans old) new now o k
      walks_more next k = search (past_next, short_kind, each_more, gathered, differ_more)

      -- the last one
      pub walks_end : (then : Spans) → new ≡ held_spans then → at.piece_length ≡ at.remaining
          → ReadsWords r l (pieces_left l) old then o k
      walks_end then s end =
          let all : pieces_left l ≡ more =
          pieces_end w.past (last_piece at end (short_kind r (piece_left at) word)) in
          subst (λ ps. ReadsWords r l ps old then o k) (sym all)
          (walked r l more old then now o k
          (sym (ap (words_of r) all ∙ keep_all (is_word (role_kind r)) more each_more))
          each_more
          (rw s at gathered)
          differ_more)
