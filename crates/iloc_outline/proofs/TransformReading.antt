-- What the reader of `t` says.
use Rattle.std.proofs.Common.{◌≡◌, ◌≢◌, ◌⊎◌, inl, inr, ℕ, ◌+◌, ◌-◌, ◌<◌, Bool, true, false, List, [], ◌∷◌, ◌++◌, length, map, refl, sym, ap, ◌∙◌, subst, arith, Option, Some, None, append_assoc, append-nil, length-append}
use Rattle.std.specs.List.{AllByRecursion}
use Rattle.std.specs.Char.{to_ascii_lowercase}
use Rattle.std.proofs.lemmas.List.{append_cancel_left}
use Rattle.iloc_spec_grammar.specs.Syntax.{Text, code_t, Language, Variant, TransformKey, Attribute, is_word, IsWord, IsField, Fields, Spelled, SpelledIdentifier, SpelledTransform, AllDifferent, fields_pieces, identifier_pieces, optional_pieces, transform_pieces, languages, is_one_byte, is_other_singleton, first_piece, front, lower, word_cmp}
use Rattle.iloc_spec_grammar.specs.Tree.{IsTransformBlock}
use Rattle.iloc_spec_grammar.specs.Reading.{after_front, after_region, front_of, passing}
use Rattle.iloc_spec_grammar.proofs.PiecesLaws.{pieces_nonempty}
use Rattle.iloc_spec_grammar.proofs.Readings.{IsLong, long_attribute}
use Rattle.iloc_spec_grammar.proofs.ReadBack.{all_append, fields_each, plain_fields}
use Rattle.iloc_spec_grammar.proofs.WordsLaws.{length-transform_key}
use Rattle.iloc_pieces.specs.Cursor.{IsPast, IsSpanned, piece_left, pieces_left, bytes_left, whole_text}
use Rattle.iloc_outline.specs.Parts.{field_part, front_pieces, in_order, optional_front, optional_variants, rank, singleton_part, transform_parts, variant_parts}
use Rattle.iloc_outline.specs.Reading.{AreFieldsRead, AreWordsRead, EndsAtBlock, EndsInKey, IsBody, Puts, ReadsBlock, ReadsFields, ReadsWords, block_span}
use Rattle.iloc_spans.specs.Spans.{held_spans}
use Rattle.iloc_pieces.specs.declared.place.Cursor.{Cursor}
use Rattle.iloc_outline.specs.declared.reading.Found.{Found}
use Rattle.iloc_outline.specs.declared.reading.Found.TheVariants.{End, Next, Bad, Repeated, Full}
use Rattle.iloc_spans.specs.declared.span.Role.TheVariants as roles
use Rattle.iloc_spans.specs.declared.spans.Spans.{Spans}
use Rattle.iloc_pieces.proofs.CursorLemmas.{past_past}
use Rattle.iloc_outline.proofs.BodyLemmas.{front_ends, front_first, front_goes_on, front_past, front_single, front_whole, puts_none, puts_singleton, puts_then, some_passed}
use Rattle.iloc_outline.proofs.TransformLemmas.{AreFields, after_front_body, alone_bad, first_body, front_bad, long_front, no_repeat, pieces_front_of, repeats, variants_of, words_front, no_fields_first, no_fields_key, no_fields_later, none_repeats, transform_good}

-- ---- good blocks

-- the pieces of an identifier
pub pieces_front : (o : Option SpelledIdentifier) →
    optional_pieces o ≡ optional_front o ++ optional_variants o
pieces_front None = refl
pieces_front (Some i) = simp append_assoc

no_items : (xs ys : List Text) → xs ++ ys ≡ [] → xs ≡ []
no_items [] ys h = refl
no_items (x ∷ xs) ys h = cc

-- where nothing follows language, script and region, they are the identifier
pub front_is_all : (ps : List Text) → IsWord (Language languages) (first_piece ps)
    → ps ≡ front_pieces (front_of ps)
    → ((front_of ps).variants ≡ []) × (ps ≡ identifier_pieces (front_of ps))
front_is_all ps word cut = grind (
  arith,
  no_items,
  append_cancel_left,
  append_assoc,
  pieces_front,
  pieces_front_of,
  append-nil,
)

-- the singleton with the front of an identifier, variants and fields were put
good_block : (c start end : ℕ) (l : Cursor) (id : Option SpelledIdentifier) (fs : Fields)
    (old mid mid' new : Spans)
    (o o' n : Bool) → to_ascii_lowercase c ≡ code_t
    → IsSpanned (whole_text l) start end ((c ∷ []) ∷ optional_front id)
    → held_spans mid ≡ held_spans old ++ block_span code_t start end false ∷ []
    → Puts (whole_text l) (variant_parts (optional_variants id)) (optional_variants id) mid mid' o o'
    → Puts (whole_text l) (in_order (map (field_part roles.Field) fs)) (fields_pieces fs) mid' new o' n
    → IsTransformBlock languages (record { id = id; fields = fs })
    → front (pieces_left l) ≡ transform_pieces {s = Spelled} (record { id = id; fields = fs })
    → ReadsBlock c l (transform_pieces {s = Spelled} (record { id = id; fields = fs })) old new o n
good_block c start end l id fs old mid mid' new o o' n e spanned put variants fields rule body =
    let m : SpelledTransform = record { id = id; fields = fs } in
    let known : is_other_singleton (to_ascii_lowercase c) ≡ false = ap is_other_singleton e in
    let place =
    rw (← (ap rank e)) at put in
    let singleton =
    puts_singleton (whole_text l) c start end (optional_front id) old mid o spanned known place
    in
    let rest = puts_then (whole_text l) (variant_parts (optional_variants id))
    (in_order (map (field_part roles.Field) fs)) (optional_variants id) (fields_pieces fs) mid mid' new o
    o' n variants fields in
    let all = puts_then (whole_text l) (singleton_part c (optional_front id) ∷ []) (transform_parts m)
    ((c ∷ []) ∷ optional_front id) (optional_variants id ++ fields_pieces fs) old mid new o o n singleton
    rest in
    let pieces : optional_front id ++ (optional_variants id ++ fields_pieces fs) ≡ transform_pieces m =
    search (append_assoc, pieces_front) in
    let good = transform_good c m e rule in
    grind arith

long_fields : (fs : Fields) → AllByRecursion IsField fs → AllByRecursion IsLong (fields_pieces fs)
long_fields fs h = fields_each IsLong TransformKey long_key long_attribute fs (plain_fields fs h)
  where
    long_key : (p : Text) → IsWord TransformKey p → IsLong p
    long_key p h = let l = length-transform_key p h in rw l

-- a key without a value in the body
body_ends_in_key : (ps : List Text) → EndsInKey ps → EndsInKey (front ps)
unfolding is_word
body_ends_in_key ps k = grind (arith, front_past, long_fields, front_first, length-transform_key)

-- ---- fields without an identifier

module _ (c start : ℕ) (l : Cursor) (e : to_ascii_lowercase c ≡ code_t)
    (none : is_word (Language languages) (piece_left l) ≡ false) where
  body_none : is_word (Language languages) (first_piece (front (pieces_left l))) ≡ false
  unfolding is_word languages
  body_none = by (pieces_left l) none
    where
      by : (ps : List Text) → is_word (Language languages) (first_piece ps) ≡ false
          → is_word (Language languages) (first_piece (front ps)) ≡ false
      by [] h = h
      by (p ∷ ps) h = grind (arith)

  bad_alone : (m : Cursor) (old new : Spans) (o n : Bool)
      → (front (pieces_left l) ≢ [] → ¬ (AreFields (front (pieces_left l)))) → IsBody c l m old new o n Bad
  bad_alone m old new o n bad = grind (arith, alone_bad, body_none, none_repeats)

  pub transform_single : (m : Cursor) (old new : Spans) (o n : Bool) → is_one_byte (piece_left l) ≡ true
      → IsBody c l m old new o n Bad
  transform_single m old new o n single = search (bad_alone, front_single)

  module _ (spanned : IsSpanned (whole_text l) start (l.at - 1) ((c ∷ []) ∷ []))
      (long : is_one_byte (piece_left l) ≡ false) (old mid : Spans) (o : Bool)
      (put : held_spans mid ≡ held_spans old ++ block_span code_t start (l.at - 1) false ∷ []) where
    good_alone : (new : Spans) (n : Bool) (fs : Fields) → AllByRecursion IsField fs → fs ≢ []
        → Puts (whole_text l) (in_order (map (field_part roles.Field) fs)) (fields_pieces fs) mid new o n
        → front (pieces_left l) ≡ fields_pieces fs → ReadsBlock c l (fields_pieces fs) old new o n
    good_alone new n fs h some puts body =
        good_block c start (l.at - 1) l None fs old mid mid new o o n e spanned put
        (puts_none (whole_text l) mid o) puts
        (record { id = tt; fields = h; nonempty = λ _. nonempty fs some }) body
      where
        nonempty : (fs : Fields) → fs ≢ [] → 0 < length fs
        nonempty [] some = absurd (some refl)
        nonempty (f ∷ fs) some = omega arith

    alone_end : (k : Cursor) (new : Spans) (n : Bool) → AreFieldsRead roles.Field l k mid new o n End
        → IsBody c l k old new o n End
    alone_end k new n (fs, cut, h) =
        rw cut (good_alone new n fs h.each (λ empty. pieces_nonempty (bytes_left l)
        (cut ∙ ap fields_pieces empty))
        h.puts (ap front cut ∙ front_whole (fields_pieces fs) (long_fields fs h.each)))

    alone_next : (k : Cursor) (new : Spans) (n : Bool) → AreFieldsRead roles.Field l k mid new o n Next
        → is_one_byte (piece_left k) ≡ true → IsBody c l k old new o n Next
    alone_next k new n (fs, past, no_key, either, h) one = (
      fields_pieces fs,
      past,
      one,
      good_alone new n fs h.each
          (λ empty. some_passed l k (fields_pieces fs) past.pieces long one (ap fields_pieces empty)) h.puts
          (front_ends l k (fields_pieces fs) past.pieces (long_fields fs h.each) one),
    )

    alone_stranger : (k : Cursor) (new : Spans) (n : Bool) → AreFieldsRead roles.Field l k mid new o n Next
        → is_one_byte (piece_left k) ≡ false → IsBody c l k old new o n Bad
    alone_stranger k new n (fs, past, no_key, either, h) longer =
        let body = front_goes_on l k (fields_pieces fs) past.pieces (long_fields fs h.each) longer in
        bad_alone k old new o n (λ _ f. no_fields either (subst AreFields body.1 f))
      where
        more : List Text
        more = (front_goes_on l k (fields_pieces fs) past.pieces (long_fields fs h.each) longer).0

        no_fields : (fs ≡ []) ⊎ (is_word Attribute (piece_left k) ≡ false)
            → ¬ (AreFields (fields_pieces fs ++ (piece_left k ∷ more)))
        no_fields (inl empty) f =
            no_fields_first (piece_left k) more no_key
            (subst AreFields (ap (λ gs. fields_pieces gs ++ (piece_left k ∷ more)) empty) f)
        no_fields (inr odd) f = no_fields_later (fields_pieces fs) (piece_left k) more no_key odd f

    pub alone_read : (k : Cursor) (new : Spans) (n : Bool) (r s : Found)
        → AreFieldsRead roles.Field l k mid new o n r → EndsAtBlock k r s → IsBody c l k old new o n s
    alone_read k new n End s h ends = rw (← ends) (alone_end k new n h)
    alone_read k new n Next Next h ends = alone_next k new n h ends
    alone_read k new n Next Bad h ends = alone_stranger k new n h ends
    alone_read k new n Next _ h ends = absurd (ends tt)
    alone_read k new n Bad s h ends =
        rw (← ends) (search (bad_alone, no_fields_key, body_ends_in_key))
    alone_read k new n Repeated s h ends = absurd (h tt)
    alone_read k new n Full s h ends = grind (arith, length-append)

-- ---- an identifier, and fields

module _ (c start end : ℕ) (l : Cursor) (e : to_ascii_lowercase c ≡ code_t)
    (word : IsWord (Language languages) (piece_left l))
    (spanned : IsSpanned (whole_text l) start end ((c ∷ []) ∷ front_pieces (front_of (pieces_left l))))
    (old mid : Spans) (o : Bool)
    (put : held_spans mid ≡ held_spans old ++ block_span code_t start end false ∷ []) where
  one_more : length (held_spans mid) ≡ length (held_spans old) + 1
  one_more = ap length put ∙ length-append (held_spans old) _

  bad_after : (k : Cursor) (new : Spans) (n : Bool)
      → AllDifferent word_cmp (map lower (front_of (pieces_left l)).variants)
      → ¬ (AreFields (front (after_front (pieces_left l)))) → IsBody c l k old new o n Bad
  bad_after k new n different bad = grind (arith, front_bad, first_body, after_front_body, no_repeat)

  good_id : (mid' new : Spans) (o' n : Bool) (fs : Fields)
      → AllDifferent word_cmp (map lower (front_of (pieces_left l)).variants) → AllByRecursion IsField fs
      → Puts (whole_text l) (variant_parts (front_of (pieces_left l)).variants)
      (front_of (pieces_left l)).variants
      mid mid' o o'
      → Puts (whole_text l) (in_order (map (field_part roles.Field) fs)) (fields_pieces fs) mid' new o' n
      → front (pieces_left l) ≡ identifier_pieces (front_of (pieces_left l)) ++ fields_pieces fs
      → ReadsBlock c l (identifier_pieces (front_of (pieces_left l)) ++ fields_pieces fs) old new o n
  good_id mid' new o' n fs different h variants fields body =
      good_block c start end l (Some (front_of (pieces_left l))) fs old mid mid' new o o' n e spanned put
      variants fields
      (grind (arith, words_front)) body

  -- language, script and region alone
  pub front_alone : (k : Cursor) → pieces_left l ≡ front_pieces (front_of (pieces_left l))
      → IsBody c l k old mid o o End
  front_alone k cut =
      let i = front_of (pieces_left l) in
      let whole = front_is_all (pieces_left l) word cut in
      let none = whole.0 in
      let all : pieces_left l ≡ identifier_pieces i ++ [] =
      whole.1 ∙ sym (append-nil (identifier_pieces i)) in
      let body : front (pieces_left l) ≡ identifier_pieces i ++ [] =
      grind (arith, append-nil, front_whole, long_front) in
      subst (λ ps. ReadsBlock c l ps old mid o o) (sym all)
      (good_id mid mid o o [] (rw none tt) tt
      (rw none (puts_none (whole_text l) mid o)) (puts_none (whole_text l) mid o) body)

  -- variants were put
  module _ (m : Cursor) (first : IsPast l m (front_pieces (front_of (pieces_left l))))
      (after : pieces_left m ≡ after_region (pieces_left l)) where
    variants_all : (vs : List Text) (mid' : Spans) (o' : Bool) → ReadsWords roles.Variant m vs mid mid' o o'
        → vs ≡ (front_of (pieces_left l)).variants
    variants_all vs mid' o' h = grind (arith, variants_of)

    all_different : (vs : List Text) (mid' : Spans) (o' : Bool) → ReadsWords roles.Variant m vs mid mid' o o'
        → AllDifferent word_cmp (map lower (front_of (pieces_left l)).variants)
    all_different vs mid' o' h =
        rw (variants_all vs mid' o' h) at h.may_be

    variants_put : (vs : List Text) (mid' : Spans) (o' : Bool) → ReadsWords roles.Variant m vs mid mid' o o'
        → Puts (whole_text l) (variant_parts (front_of (pieces_left l)).variants)
        (front_of (pieces_left l)).variants
        mid mid' o o'
    variants_put vs mid' o' h =
        rw (variants_all vs mid' o' h) at (subst (λ t. Puts t
        (variant_parts vs) vs mid mid' o o') first.text h.puts)

    identifier_all : (vs : List Text) (mid' : Spans) (o' : Bool) → ReadsWords roles.Variant m vs mid mid' o o'
        → front_pieces (front_of (pieces_left l)) ++ vs ≡ identifier_pieces (front_of (pieces_left l))
    identifier_all vs mid' o' h =
        ap (λ ws. front_pieces (front_of (pieces_left l)) ++ ws) (variants_all vs mid' o' h)
        ∙ sym (pieces_front (Some (front_of (pieces_left l))))

    variants_end : (new : Spans) (n : Bool) → ReadsWords roles.Variant m (pieces_left m) mid new o n
        → ReadsBlock c l (pieces_left l) old new o n
    variants_end new n h =
        let i = front_of (pieces_left l) in
        let all : pieces_left l ≡ identifier_pieces i ++ [] =
        first.pieces ∙ identifier_all (pieces_left m) new n h ∙ sym (append-nil (identifier_pieces i)) in
        let body : front (pieces_left l) ≡ identifier_pieces i ++ [] =
        grind (arith, append-nil, front_whole, long_front) in
        rw all (good_id new new n n [] (all_different (pieces_left m) new n h) tt
        (variants_put (pieces_left m) new n h)
        (puts_none (whole_text l) new n) body)

    variants_repeated : (k : Cursor) (new : Spans) (n : Bool)
        → ¬ (AllDifferent word_cmp (map lower (passing (is_word Variant) (pieces_left m))))
        → IsBody c l k old new o n Repeated
    variants_repeated k new n h = grind (arith, repeats, variants_of)

    -- ... and then fields
    module _ (k : Cursor) (vs : List Text) (past : IsPast m k vs)
        (odd : is_word Variant (piece_left k) ≡ false)
        (mid' : Spans) (o' : Bool) (words : ReadsWords roles.Variant m vs mid mid' o o') where
      before : IsPast l k (identifier_pieces (front_of (pieces_left l)))
      before = subst (IsPast l k) (identifier_all vs mid' o' words) (past_past first past)

      -- where all that is left over after the identifier is known
      left_over : after_front (pieces_left l) ≡ pieces_left k
      left_over = append_cancel_left (identifier_pieces (front_of (pieces_left l))) _ _
          (pieces_front_of (pieces_left l) word ∙ before.pieces)

      fields_put : (new : Spans) (n : Bool) (fs : Fields) → ReadsFields roles.Field k fs mid' new o' n
          → Puts (whole_text l) (in_order (map (field_part roles.Field) fs)) (fields_pieces fs) mid' new o' n
      fields_put new n fs h = grind arith

      good_fields : (new : Spans) (n : Bool) (fs : Fields) → ReadsFields roles.Field k fs mid' new o' n
          → front (pieces_left l) ≡ identifier_pieces (front_of (pieces_left l)) ++ fields_pieces fs
          → ReadsBlock c l (identifier_pieces (front_of (pieces_left l)) ++ fields_pieces fs) old new o n
      good_fields new n fs h body = search (good_id, all_different, variants_put, fields_put)

      long_all : (fs : Fields) → AllByRecursion IsField fs
          → AllByRecursion IsLong (identifier_pieces (front_of (pieces_left l)) ++ fields_pieces fs)
      long_all fs h = search (all_append, long_front, long_fields)

      fields_end : (j : Cursor) (new : Spans) (n : Bool) → AreFieldsRead roles.Field k j mid' new o' n End
          → IsBody c l j old new o n End
      fields_end j new n (fs, cut, h) =
          let ids = identifier_pieces (front_of (pieces_left l)) in
          let all : pieces_left l ≡ ids ++ fields_pieces fs = before.pieces ∙ ap (λ ps. ids ++ ps) cut in
          rw all (good_fields new n fs h
          (ap front all ∙ front_whole (ids ++ fields_pieces fs) (long_all fs h.each)))

      fields_next : (j : Cursor) (new : Spans) (n : Bool) → AreFieldsRead roles.Field k j mid' new o' n Next
          → is_one_byte (piece_left j) ≡ true → IsBody c l j old new o n Next
      fields_next j new n (fs, later, no_key, either, h) one =
          let both = past_past before later in search (good_fields, front_ends, long_all)

      fields_stranger : (j : Cursor) (new : Spans) (n : Bool)
          → AreFieldsRead roles.Field k j mid' new o' n Next → is_one_byte (piece_left j) ≡ false
          → IsBody c l j old new o n Bad
      fields_stranger j new n (fs, later, no_key, either, h) longer =
          bad_after j new n (all_different vs mid' o' words)
          (λ f. no_fields either (subst AreFields (ap front left_over ∙ body.1) f))
        where
          body : (more : List Text) × (front (pieces_left k) ≡ fields_pieces fs ++ (piece_left j ∷ more))
          body = front_goes_on k j (fields_pieces fs) later.pieces (long_fields fs h.each) longer

          no_fields : (fs ≡ []) ⊎ (is_word Attribute (piece_left j) ≡ false)
              → ¬ (AreFields (fields_pieces fs ++ (piece_left j ∷ body.0)))
          no_fields (inl empty) f =
              no_fields_first (piece_left j) body.0 no_key
              (subst AreFields (ap (λ gs. fields_pieces gs ++ (piece_left j ∷ body.0)) empty) f)
          no_fields (inr odd) f = no_fields_later (fields_pieces fs) (piece_left j) body.0 no_key odd f

      fields_read : (j : Cursor) (new : Spans) (n : Bool) (r s : Found)
          → AreFieldsRead roles.Field k j mid' new o' n r → EndsAtBlock j r s → IsBody c l j old new o n s
      fields_read j new n End s h ends = rw (← ends) (fields_end j new n h)
      fields_read j new n Next Next h ends = fields_next j new n h ends
      fields_read j new n Next Bad h ends = fields_stranger j new n h ends
      fields_read j new n Next _ h ends = absurd (ends tt)
      fields_read j new n Bad s h ends =
          rw (← ends) (search (bad_after, all_different, no_fields_key, body_ends_in_key, left_over))
      fields_read j new n Repeated s h ends = absurd (h tt)
      fields_read j new n Full s h ends = grind (arith, one_more, length-append)

    pub variants_read : (k j : Cursor) (mid' new : Spans) (o' n : Bool) (r s : Found)
        → AreWordsRead roles.Variant m k mid mid' o o' Next → AreFieldsRead roles.Field k j mid' new o' n r
        → EndsAtBlock j r s → IsBody c l j old new o n s
    variants_read k j mid' new o' n r s (vs, past, odd, words) = grind (arith, fields_read)

    pub variants_alone : (k : Cursor) (new : Spans) (n : Bool) (r : Found)
        → AreWordsRead roles.Variant m k mid new o n r → r ≢ Next → IsBody c l k old new o n r
    variants_alone k new n End h ends = variants_end new n h
    variants_alone k new n Next h ends = absurd (ends refl)
    variants_alone k new n Bad h ends = absurd (h tt)
    variants_alone k new n Repeated h ends = variants_repeated k new n h.1
    variants_alone k new n Full h ends = grind (arith, one_more, length-append)
