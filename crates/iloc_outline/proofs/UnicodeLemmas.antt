-- Which pieces may follow `u`: attributes and keys, one at least.
use Rattle.std.proofs.Common.{◌≡◌, ◌≢◌, ◌⊎◌, inl, inr, ℕ, ◌+◌, ◌-◌, ◌<◌, Bool, true, false, List, [], ◌∷◌, ◌++◌, length, map, refl, sym, ap, ◌∙◌, subst, arith, append-nil, length-append, true≢false}
use Rattle.std.specs.List.{AllByRecursion}
use Rattle.std.specs.Char.{to_ascii_lowercase}
use Rattle.iloc_spec_grammar.specs.Syntax.{Text, code_t, code_u, UnicodeKey, Attribute, is_word, IsWord, IsKeyword, Fields, SpelledUnicode, fields_pieces, unicode_pieces, languages, is_one_byte, is_other_singleton, front}
use Rattle.iloc_spec_grammar.specs.Tree.{Extension, unicode, transform, other, IsBlock, IsExtension, IsUnicodeBlock, extension_pieces}
use Rattle.iloc_spec_grammar.specs.Reading.{unicode_of}
use Rattle.iloc_spec_grammar.specs.Computing.{is_block}
use Rattle.iloc_spec_grammar.proofs.PiecesLaws.{pieces_nonempty}
use Rattle.iloc_spec_grammar.proofs.ReadingLaws.{keep_while_passes}
use Rattle.iloc_spec_grammar.proofs.Readings.{IsLong, long_attribute, unicode_of-pieces}
use Rattle.iloc_spec_grammar.proofs.ReadBack.{all_append, fields_each}
use Rattle.iloc_spec_grammar.proofs.RuleTests.{tests_block, tests_fails}
use Rattle.iloc_spec_grammar.proofs.Singletons.{no_u}
use Rattle.iloc_spec_grammar.proofs.ValuesLaws.{all_weaker}
use Rattle.iloc_spec_grammar.proofs.WordsLaws.{length-unicode_key}
use Rattle.iloc_pieces.specs.Cursor.{IsPast, IsSpanned, piece_left, pieces_left, bytes_left, whole_text}
use Rattle.iloc_outline.specs.Parts.{block_parts, field_part, in_order, rank, singleton_part, unicode_parts, word_part}
use Rattle.iloc_outline.specs.Reading.{AreFieldsRead, AreWordsRead, EndsAtBlock, IsBody, Puts, ReadsBlock, ReadsFields, ReadsWords, block_span}
use Rattle.iloc_spans.specs.Spans.{held_spans}
use Rattle.iloc_pieces.specs.declared.place.Cursor.{Cursor}
use Rattle.iloc_outline.specs.declared.reading.Found.{Found}
use Rattle.iloc_outline.specs.declared.reading.Found.TheVariants.{End, Next, Bad, Repeated, Full}
use Rattle.iloc_spans.specs.declared.span.Role.TheVariants as roles
use Rattle.iloc_spans.specs.declared.spans.Spans.{Spans}
use Rattle.iloc_pieces.proofs.CursorLemmas.{past_past}
use Rattle.iloc_outline.proofs.BodyLemmas.{front_ends, front_goes_on, front_single, front_whole, puts_singleton, puts_then, some_passed}

-- an attribute or a key
abbrev pub IsUnicodeWord : Text → Type 0
IsUnicodeWord p = IsWord Attribute p ⊎ IsWord UnicodeKey p

pub all_words : (ws : List Text) (fs : Fields) → AllByRecursion (IsWord Attribute) ws
    → AllByRecursion IsKeyword fs → AllByRecursion IsUnicodeWord (ws ++ fields_pieces fs)
all_words ws fs h k =
    all_append IsUnicodeWord ws _ (all_weaker (IsWord Attribute) IsUnicodeWord (λ p a. inl a) ws h)
    (fields_each IsUnicodeWord UnicodeKey (λ p a. inr a) (λ p a. inl a) fs k)

pub long_unicode : (p : Text) → IsUnicodeWord p → IsLong p
long_unicode p (inl h) = long_attribute p h
long_unicode p (inr h) = let l = length-unicode_key p h in rw l

some_part : (ws : List Text) (fs : Fields) → ws ++ fields_pieces fs ≢ [] → 0 < length ws + length fs
some_part [] [] h = absurd (h refl)
some_part [] (f ∷ fs) h = omega arith
some_part (w ∷ ws) fs h = omega arith

-- attributes and keywords are a good block, and are read
pub unicode_good : (c : ℕ) (ws : List Text) (fs : Fields) → to_ascii_lowercase c ≡ code_u
    → AllByRecursion (IsWord Attribute) ws → AllByRecursion IsKeyword fs → ws ++ fields_pieces fs ≢ []
    → (is_block languages (c, ws ++ fields_pieces fs) ≡ true)
    × (unicode_of (ws ++ fields_pieces fs) ≡ record { attributes = ws; keywords = fs })
unicode_good c ws fs e h k some =
    let u : SpelledUnicode = record { attributes = ws; keywords = fs } in
    let good : IsUnicodeBlock u =
    record { attributes = h; keywords = k; nonempty = some_part ws fs some } in (
      (tests_block languages (c, unicode_pieces u)).passes (inr (unicode u, (e, good), refl)),
      unicode_of-pieces u good,
    )

-- other pieces are a bad one
pub unicode_bad : (c : ℕ) (ps : List Text) → to_ascii_lowercase c ≡ code_u
    → (ps ≢ [] → ¬ (AllByRecursion IsUnicodeWord ps)) → is_block languages (c, ps) ≡ false
unicode_bad c ps e bad = tests_fails (tests_block languages (c, ps)) none
  where
    words : (u : SpelledUnicode) → IsUnicodeBlock u → ps ≡ unicode_pieces u → ⊥
    words u h cut = bad (λ none. nonempty u.attributes u.keywords h.nonempty (sym cut ∙ none))
        (rw cut (all_words u.attributes u.keywords h.attributes h.keywords))
      where
        nonempty : (ws : List Text) (fs : Fields) → 0 < length ws + length fs → ws ++ fields_pieces fs ≢ []
        nonempty [] [] l none = omega arith
        nonempty [] (f ∷ fs) l none = cc
        nonempty (w ∷ ws) fs l none = cc

    extension : (x : Extension) → IsExtension languages (to_ascii_lowercase c) x → ps ≡ extension_pieces x → ⊥
    extension (unicode u) h cut = words u h.1 cut
    extension (transform m) h cut = omega (arith, e, h.0)
    extension (other qs) h cut = no_u (to_ascii_lowercase c) e h.0

    none : ¬ (IsBlock languages (c, ps))
    none (inl h) = omega (arith, e, h.0)
    none (inr (x, h, cut)) = extension x h cut

-- a piece that is neither, after some
pub no_word_after : (ps qs : List Text) (q : Text) → is_word Attribute q ≡ false
    → is_word UnicodeKey q ≡ false → ¬ (AllByRecursion IsUnicodeWord (ps ++ (q ∷ qs)))
no_word_after [] qs q a k h = grind (arith, true≢false)
no_word_after (p ∷ ps) qs q a k h = no_word_after ps qs q a k h.1

-- ---- what the reader says

no_t_of_u : (c : ℕ) (P : Type 0) → to_ascii_lowercase c ≡ code_u → ¬ ((to_ascii_lowercase c ≡ code_t) × P)
no_t_of_u c P e h = omega (arith, e, h.0)

-- a singleton follows
pub unicode_single : (c : ℕ) (l m : Cursor) (old new : Spans) (o n : Bool) → to_ascii_lowercase c ≡ code_u
    → is_one_byte (piece_left l) ≡ true → IsBody c l m old new o n Bad
unicode_single c l m old new o n e single = search (front_single, no_t_of_u, unicode_bad)

-- the parts of the block
parts_of_u : (c : ℕ) (ps : List Text) (u : SpelledUnicode) → to_ascii_lowercase c ≡ code_u → unicode_of ps ≡ u
    → block_parts (c, ps) ≡ singleton_part c [] ∷ unicode_parts u
parts_of_u c ps u e h = rw (e, h)

abbrev unicode_pair : List Text → Fields → SpelledUnicode
unicode_pair ws fs = record { attributes = ws; keywords = fs }

module _ (c start : ℕ) (l : Cursor) (e : to_ascii_lowercase c ≡ code_u)
    (spanned : IsSpanned (whole_text l) start (l.at - 1) ((c ∷ []) ∷ []))
    (long : is_one_byte (piece_left l) ≡ false) (old mid : Spans) (o : Bool)
    (put : held_spans mid ≡ held_spans old ++ block_span code_u start (l.at - 1) false ∷ []) where
  one_more : length (held_spans mid) ≡ length (held_spans old) + 1
  one_more = ap length put ∙ length-append (held_spans old) _

  -- attributes and keywords were put
  good_block : (new : Spans) (n : Bool) (ws : List Text) (fs : Fields) → AllByRecursion (IsWord Attribute) ws
      → AllByRecursion IsKeyword fs → ws ++ fields_pieces fs ≢ []
      → front (pieces_left l) ≡ ws ++ fields_pieces fs
      → Puts (whole_text l) (unicode_parts (unicode_pair ws fs)) (ws ++ fields_pieces fs) mid new o n
      → ReadsBlock c l (ws ++ fields_pieces fs) old new o n
  good_block new n ws fs h k some body puts =
      let u = unicode_pair ws fs in
      let known : is_other_singleton (to_ascii_lowercase c) ≡ false = ap is_other_singleton e in
      let place =
      rw (← (ap rank e)) at put in
      let both = puts_then (whole_text l) (singleton_part c [] ∷ []) (unicode_parts u) ((c ∷ []) ∷ [])
      (ws ++ fields_pieces fs) old mid new o o n
      (puts_singleton (whole_text l) c start (l.at - 1) [] old mid o spanned known place) puts in
      let good = unicode_good c ws fs e h k some in
      grind (arith, parts_of_u)

  long_words : (ws : List Text) (fs : Fields) → AllByRecursion (IsWord Attribute) ws
      → AllByRecursion IsKeyword fs → AllByRecursion IsLong (ws ++ fields_pieces fs)
  long_words ws fs h k = grind (arith, all_weaker, long_unicode, all_words)

  -- all pieces are attributes
  attributes_alone : (new : Spans) (n : Bool) → ReadsWords roles.Attribute l (pieces_left l) mid new o n
      → ReadsBlock c l (pieces_left l) old new o n
  attributes_alone new n h =
      let ws = pieces_left l in
      let all : AllByRecursion (IsWord Attribute) ws =
      rw h.words (keep_while_passes (is_word Attribute) ws)
      in
      let same : ws ≡ ws ++ [] = sym (append-nil ws) in
      let parts = in_order (map (word_part roles.Attribute) ws) in
      let puts : Puts (whole_text l) (parts ++ []) (ws ++ []) mid new o n =
      rw (append-nil parts) (subst (λ qs. Puts (whole_text l) parts qs mid new o n) same h.puts) in
      rw (append-nil ws) at (good_block new n ws [] all tt
      (λ none. pieces_nonempty (bytes_left l) (same ∙ none))
      (front_whole ws (subst (AllByRecursion IsLong) (append-nil ws) (long_words ws [] all tt)) ∙ same)
      puts)

  -- attributes were put, and then keywords
  module _ (m : Cursor) (ws : List Text) (past : IsPast l m ws)
      (none : is_word Attribute (piece_left m) ≡ false)
      (mid' : Spans) (o' : Bool) (words : ReadsWords roles.Attribute l ws mid mid' o o') where
    all_attributes : AllByRecursion (IsWord Attribute) ws
    all_attributes = rw words.words (keep_while_passes (is_word Attribute) (pieces_left l))

    both_put : (new : Spans) (n : Bool) (fs : Fields) → ReadsFields roles.Keyword m fs mid' new o' n
        → Puts (whole_text l) (unicode_parts (unicode_pair ws fs)) (ws ++ fields_pieces fs) mid new o n
    both_put new n fs h =
        puts_then (whole_text l) (in_order (map (word_part roles.Attribute) ws))
        (in_order (map (field_part roles.Keyword) fs)) ws (fields_pieces fs) mid mid' new o o' n words.puts
        (rw past.text at h.puts)

    keywords_end : (k : Cursor) (new : Spans) (n : Bool) → AreFieldsRead roles.Keyword m k mid' new o' n End
        → IsBody c l k old new o n End
    keywords_end k new n (fs, cut, h) =
        let all : pieces_left l ≡ ws ++ fields_pieces fs = past.pieces ∙ ap (λ ps. ws ++ ps) cut in
        let long = long_words ws fs all_attributes h.each in
        rw all (good_block new n ws fs all_attributes h.each
        (λ empty. pieces_nonempty (bytes_left l) (all ∙ empty))
        (ap front all ∙ front_whole (ws ++ fields_pieces fs) long) (both_put new n fs h))

    keywords_next : (k : Cursor) (new : Spans) (n : Bool) → AreFieldsRead roles.Keyword m k mid' new o' n Next
        → is_one_byte (piece_left k) ≡ true → IsBody c l k old new o n Next
    keywords_next k new n (fs, later, no_key, either, h) one =
        let both = past_past past later in
        search (long_words, all_attributes, good_block, some_passed, front_ends, both_put)

    keywords_bad : (k : Cursor) (new : Spans) (n : Bool) → AreFieldsRead roles.Keyword m k mid' new o' n Next
        → is_one_byte (piece_left k) ≡ false → IsBody c l k old new o n Bad
    keywords_bad k new n (fs, later, no_key, either, h) long =
        let both = past_past past later in
        grind (arith, front_goes_on, long_words, all_attributes, unicode_bad, no_word_after, no_t_of_u)
      where
        no_attribute : (fs ≡ []) ⊎ (is_word Attribute (piece_left k) ≡ false)
            → is_word Attribute (piece_left k) ≡ false
        no_attribute (inl no_fields) =
            cc
        no_attribute (inr odd) = odd

    keywords_full : (k : Cursor) (new : Spans) (n : Bool) → AreFieldsRead roles.Keyword m k mid' new o' n Full
        → IsBody c l k old new o n Full
    keywords_full k new n h = grind (arith, one_more, length-append)

    keywords_read : (k : Cursor) (new : Spans) (n : Bool) (r s : Found)
        → AreFieldsRead roles.Keyword m k mid' new o' n r → EndsAtBlock k r s → IsBody c l k old new o n s
    keywords_read k new n End s h ends = rw (← ends) (keywords_end k new n h)
    keywords_read k new n Next Next h ends = keywords_next k new n h ends
    keywords_read k new n Next Bad h ends = keywords_bad k new n h ends
    keywords_read k new n Next _ h ends = absurd (ends tt)
    keywords_read k new n Bad s h ends = cc h.0
    keywords_read k new n Repeated s h ends = absurd (h tt)
    keywords_read k new n Full s h ends = rw (← ends) (keywords_full k new n h)

  -- the same where no attribute is left out
  pub words_read : (m k : Cursor) (mid' new : Spans) (o' n : Bool) (r s : Found)
      → AreWordsRead roles.Attribute l m mid mid' o o' Next → AreFieldsRead roles.Keyword m k mid' new o' n r
      → EndsAtBlock k r s → IsBody c l k old new o n s
  words_read m k mid' new o' n r s (ws, past, none, words) = grind (arith, keywords_read)

  pub words_alone : (m : Cursor) (new : Spans) (n : Bool) (r s : Found)
      → AreWordsRead roles.Attribute l m mid new o n r → r ≢ Next → EndsAtBlock m r s →
      IsBody c l m old new o n s
  words_alone m new n End s h ends k = rw (← k) (attributes_alone new n h)
  words_alone m new n Next s h ends k = absurd (ends refl)
  words_alone m new n Bad s h ends k = absurd (h tt)
  words_alone m new n Repeated s h ends k = cc h.0
  words_alone m new n Full s h ends k = grind (arith, one_more)
