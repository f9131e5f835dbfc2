-- What the reader of a head says: an identifier that is all of a text, or ends at a block, or why it is none.
use Rattle.std.proofs.Common.{◌≡◌, ◌≢◌, ◌⊎◌, inl, inr, ◌≤◌, Bool, true, false, List, [], ◌∷◌, ◌++◌, length, map, flat_map, take, drop, None, Some, refl, sym, ap, ◌∙◌, subst, arith, append_assoc, length-append, true≢false}
use Rattle.std.specs.List.{AllZip}
use Rattle.std.proofs.lemmas.List.{append_cancel_left, take-append-drop, length-take-le}
use Rattle.iloc_spec_grammar.specs.Syntax.{Text, SpelledIdentifier, Language, AllDifferent, IsWord, dashes, first_piece, front, head, identifier_pieces, is_one_byte, is_word, join, languages, lower, pieces, word_cmp}
use Rattle.iloc_spec_grammar.specs.Meaning.{IdentifierMeans, SpellsIdentifier, normal_identifier, not_an_identifier}
use Rattle.iloc_spec_grammar.specs.Reading.{after_front, after_head, from_block, front_of, starts_block}
use Rattle.iloc_spec_grammar.proofs.PartTexts.{join-append}
use Rattle.iloc_spec_grammar.proofs.PiecesLaws.{at_pieces}
use Rattle.iloc_spec_grammar.proofs.ReadingLaws.{from_block_starts, front-from_block, refuses_more, refuses_repeat, starts_ends}
use Rattle.iloc_spec_grammar.proofs.Readings.{after_language}
use Rattle.iloc_outline.specs.Identifier.{IsAfterFront, IsFrontRead, front_text}
use Rattle.iloc_pieces.specs.Cursor.{IsPast, piece_left, pieces_left, bytes_left, whole_text}
use Rattle.iloc_outline.specs.Outlines.{AreHeadRead, ReadsHead, parts_text}
use Rattle.iloc_outline.specs.Parts.{front_pieces, printed_part, variant_parts}
use Rattle.iloc_outline.specs.Reading.{AreWordsRead, ReadsWords}
use Rattle.iloc_outline.specs.Spans.{IsSpan, Spell}
use Rattle.iloc_spans.specs.Spans.{held_spans}
use Rattle.iloc_outline.specs.declared.identifier.Front.{Front}
use Rattle.iloc_pieces.specs.declared.place.Cursor.{Cursor}
use Rattle.iloc_outline.specs.declared.outline.Head.TheVariants as heads
use Rattle.iloc_outline.specs.declared.outline.Outline.{Outline}
use Rattle.iloc_outline.specs.declared.reading.Found.{Found}
use Rattle.iloc_outline.specs.declared.reading.Found.TheVariants.{End, Next, Bad, Repeated}
use Rattle.iloc_spans.specs.declared.span.Role.TheVariants as roles
use Rattle.iloc_spans.specs.declared.spans.Spans.{Spans}
use Rattle.iloc_subtags.specs.declared.parse_error.ParseError.TheVariants.{InvalidSubtag}
use Rattle.iloc_outline.proofs.BlocksLemmas.{plain_variants}
use Rattle.iloc_outline.proofs.BodyLemmas.{front_all}
use Rattle.iloc_outline.proofs.Fronts.{begins_text, front_text-append}
use Rattle.iloc_pieces.proofs.CursorLemmas.{length_text, past_past}
use Rattle.iloc_outline.proofs.Meanings.{parts_dashes}
use Rattle.iloc_outline.proofs.OutlineLemmas.{lower-append, lower-dashes}
use Rattle.iloc_outline.proofs.SpansLemmas.{spell_length}
use Rattle.iloc_outline.proofs.TransformLemmas.{at_language, long_front, pieces_front_of, variants_of, words_front}
use Rattle.iloc_outline.proofs.TransformReading.{front_is_all, pieces_front}
use Rattle.iloc_spec_grammar.proofs.SameFaults.{first_of_head}

-- ---- heads that are no identifier

-- what is left over is not where a block begins
more_left : (ps : List Text) → IsWord (Language languages) (first_piece ps) → after_front ps ≢ after_head ps
    → ¬ (SpellsIdentifier languages (head ps))
more_left = at_language _ (λ p ps h.
    rw (front-from_block ps) at (refuses_more languages p (front ps) (from_block ps)
    (starts_ends (from_block ps) (from_block_starts ps))))

-- a variant comes twice
one_twice : (ps : List Text) → IsWord (Language languages) (first_piece ps)
    → ¬ (AllDifferent word_cmp (map lower (front_of ps).variants)) → ¬ (SpellsIdentifier languages (head ps))
one_twice = at_language _ (λ p ps h.
    rw (front-from_block ps) at (refuses_repeat languages p (front ps) (from_block ps)
    (starts_ends (from_block ps) (from_block_starts ps))))

-- behind a head a block begins
after_starts : (ps : List Text) → starts_block (after_head ps) ≡ true
after_starts [] = refl
after_starts (p ∷ ps) = from_block_starts ps

starts_single : (t : Text) → starts_block (pieces t) ≡ true → is_one_byte (first_piece (pieces t)) ≡ true
starts_single t = at_pieces (λ ps. starts_block ps ≡ true → is_one_byte (first_piece ps) ≡ true)
    (λ p ps e. e) t

pub single_starts : (t : Text) → is_one_byte (first_piece (pieces t)) ≡ true → starts_block (pieces t) ≡ true
single_starts t = grind (arith, at_pieces)

-- ---- heads that are

-- the words of an identifier at the front, up to a block, are the head
head_words : (ps rest : List Text) → IsWord (Language languages) (first_piece ps)
    → ps ≡ identifier_pieces (front_of ps) ++ rest → starts_block rest ≡ true
    → (head ps ≡ identifier_pieces (front_of ps)) × (after_head ps ≡ rest)
head_words ps rest word cut s =
    let i = front_of ps in
    let after : List Text = after_language i in
    let whole : front (after ++ rest) ≡ after = front_all after rest (long_front ps word).1 s in (
      ap head cut ∙ ap (λ qs. i.language ∷ qs) whole,
      ap after_head cut ∙ append_cancel_left after _ _
          (ap (λ qs. qs ++ from_block (after ++ rest)) (sym whole) ∙ front-from_block (after ++ rest)),
    )

-- ---- what is read from the beginning of a text on

-- the outline that begins so
abbrev pub outline_of : Front → Outline
outline_of f = record { front = f.end; script = f.script; region = f.region }

module _ (l : Cursor) (f : Front) (first : l.at ≡ 0)
    (word : IsWord (Language languages) (piece_left l)) (m : Cursor) (read : IsFrontRead l m f) where
  abbrev i : SpelledIdentifier
  i = front_of (pieces_left l)

  whole : whole_text l ≡ bytes_left l
  whole = begins_text l first

  begins : IsWord (Language languages) (first_piece (head (pieces_left l)))
  begins = ap (is_word (Language languages)) (first_of_head (pieces_left l)) ∙ word

  pieces_i : identifier_pieces i ≡ front_pieces i ++ i.variants
  pieces_i = pieces_front (Some i)

  meant : (ps : List Text) → AllDifferent word_cmp (map lower i.variants) → ps ≡ identifier_pieces i
      → IdentifierMeans languages ps (normal_identifier i)
  meant ps different same = search words_front

  inside : f.end ≤ length (bytes_left l)
  inside = rw (← whole) (omega (arith, read.inside, length_text l))

  front_bytes : take f.end (bytes_left l) ≡ join (front_pieces i)
  front_bytes = rw whole at (read.text first)

  front_printed : front_text f.script f.region (take f.end (bytes_left l))
      ≡ join (front_pieces (normal_identifier i))
  front_printed = rw whole at (read.printed first)

  behind : (rest : Text) → bytes_left l ≡ join (identifier_pieces i) ++ rest
      → drop f.end (bytes_left l) ≡ dashes i.variants ++ rest
  behind rest e = append_cancel_left (join (front_pieces i)) _ _
      (grind (arith, front_bytes, take-append-drop, pieces_i, join-append, append_assoc))

  stands : (rest : Text) → bytes_left l ≡ join (identifier_pieces i) ++ rest
      → flat_map printed_part (variant_parts i.variants) ≡ map lower i.variants
      → front_text f.script f.region (bytes_left l) ≡ join (front_pieces (normal_identifier i))
      ++ (parts_text (variant_parts i.variants) ++ lower rest)
  stands rest e same =
      let long : length (take f.end (bytes_left l)) ≡ f.end = length-take-le f.end (bytes_left l) inside in
      let within = read.within first in
      cc (
        take-append-drop f.end (bytes_left l),
        front_text-append f.script f.region
            (take f.end (bytes_left l)) (drop f.end (bytes_left l)) (omega arith) (omega arith),
        front_printed,
        behind rest e,
        lower-append (dashes i.variants) rest,
        lower-dashes i.variants,
        same,
        parts_dashes (variant_parts i.variants),
      )

  reads : (ps : List Text) (spans : Spans) (n : Bool) → AllDifferent word_cmp (map lower i.variants)
      → ps ≡ identifier_pieces i → Spell (bytes_left l) spans (variant_parts i.variants)
      → length (held_spans spans) ≤ length ps
      → (n ≡ true → flat_map printed_part (variant_parts i.variants) ≡ map lower i.variants)
      → ReadsHead (bytes_left l) ps (outline_of f) spans n
  reads ps spans n different same spell few order = grind
      (arith, meant, inside, front_printed, spell_length, stands)

  -- a language, a script and a region are all of the text
  pub head_front : (spans : Spans) → held_spans spans ≡ [] → IsAfterFront l None
      → AreHeadRead (bytes_left l) m spans true (heads.All (outline_of f))
  head_front spans none cut = grind (arith, whole, front_is_all, reads)

  -- variants follow, or something else
  module _ (after : IsAfterFront l (Some m)) (old : Spans) (none : held_spans old ≡ []) where
    module _ (vs : List Text) (new : Spans) (n : Bool)
        (h : ReadsWords roles.Variant m vs old new true n) where
      same_words : vs ≡ i.variants
      same_words = h.words ∙ variants_of (pieces_left l) (pieces_left m) after.1

      differ : AllDifferent word_cmp (map lower i.variants)
      differ = rw same_words at h.may_be

      spelled : Spell (bytes_left l) new (variant_parts i.variants)
      spelled = rw same_words at (subst (λ t. Spell t new (variant_parts vs)) (after.0.text ∙ whole)
          (h.puts.adds [] (subst (λ ss. AllZip (IsSpan (whole_text m)) ss []) (sym none) tt)))

      read_up_to : (ps : List Text) → ps ≡ identifier_pieces i →
          ReadsHead (bytes_left l) ps (outline_of f) new n
      read_up_to ps same = grind (arith, reads, differ, spelled, same_words, pieces_i, length-append)

    -- variants are the rest of the text
    pub head_variants : (k : Cursor) (new : Spans) (n : Bool) →
        AreWordsRead roles.Variant m k old new true n End
        → AreHeadRead (bytes_left l) k new n (heads.All (outline_of f))
    head_variants k new n h = read_up_to (pieces_left m) new n h (pieces_left l)
        (cc (after.0.pieces, same_words (pieces_left m) new n h, pieces_i))

    module _ (k : Cursor) (new : Spans) (n : Bool)
        (h : AreWordsRead roles.Variant m k old new true n Next) where
      before : IsPast l k (identifier_pieces i)
      before = rw (ap (λ ws. front_pieces i ++ ws) (same_words h.0 new n h.3) ∙ sym pieces_i)
          at (past_past after.0 h.1)

      -- a block follows
      pub head_block : is_one_byte (piece_left k) ≡ true
          → AreHeadRead (bytes_left l) k new n (heads.Block (outline_of f))
      head_block single =
          let both = head_words (pieces_left l) (pieces_left k) word before.pieces
          (single_starts (bytes_left k) single) in (
            before.later,
            before.text ∙ whole,
            single,
            before.pieces ∙ ap (λ ps. ps ++ pieces_left k) (sym both.0),
            both.1,
            (variant_parts i.variants, plain_variants i.variants, spelled h.0 new n h.3),
            read_up_to h.0 new n h.3 (head (pieces_left l)) both.0,
          )

      -- something else follows
      pub head_stranger : is_one_byte (piece_left k) ≡ false
          → AreHeadRead (bytes_left l) k new n (heads.Refused InvalidSubtag)
      head_stranger longer = not_an_identifier begins
          (more_left (pieces_left l) word (λ e. true≢false
          (sym
          (starts_single (bytes_left k) (ap starts_block (sym left_over ∙ e) ∙ after_starts (pieces_left l)))
          ∙ longer)))
        where
          left_over : after_front (pieces_left l) ≡ pieces_left k
          left_over = append_cancel_left (identifier_pieces i) _ _
              (pieces_front_of (pieces_left l) word ∙ before.pieces)

    -- a variant comes twice
    head_repeated : (k : Cursor) (new : Spans) (n : Bool)
        → AreWordsRead roles.Variant m k old new true n Repeated
        → AreHeadRead (bytes_left l) k new n (heads.Refused InvalidSubtag)
    head_repeated k new n h = not_an_identifier begins
        (grind (arith, one_twice, variants_of))

    -- neither of these
    pub head_other : (k : Cursor) (new : Spans) (n : Bool) (r : Found)
        → AreWordsRead roles.Variant m k old new true n r → (r ≡ Bad) ⊎ (r ≡ Repeated)
        → AreHeadRead (bytes_left l) k new n (heads.Refused InvalidSubtag)
    head_other k new n r h (inl e) = grind arith
    head_other k new n r h (inr e) =
        head_repeated k new n (rw e at h)
