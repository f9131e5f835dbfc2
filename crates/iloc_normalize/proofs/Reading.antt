-- What is read from the beginning of a text on, as a data locale.
use Rattle.std.proofs.Common.{◌≡◌, ◌⊎◌, inl, inr, ℕ, suc, ◌+◌, ◌≤◌, true, false, List, [], ◌∷◌, ◌++◌, length, take, Some, None, Ok, Err, refl, sym, ap, ◌∙◌, subst, arith, append_assoc, append-nil, length-append, option_map}
use Rattle.std.proofs.Math.Seq.{take-append-add}
use Rattle.std.proofs.lemmas.List.{length-take-le, take-take}
use Rattle.iloc_spec_grammar.specs.Syntax.{Text, Variant, SpelledIdentifier, IsWord, is_one_byte, is_word, join, languages, pieces}
use Rattle.iloc_spec_grammar.specs.Meaning.{Fault, InvalidSubtag, normal_identifier}
use Rattle.iloc_spec_grammar.specs.Reading.{after_front, after_region, front_of, rest_of}
use Rattle.iloc_spec_parts.specs.Small.{SmallIdentifier}
use Rattle.iloc_spec_parts.specs.SmallComputing.{blocks_result, small_identifier}
use Rattle.iloc_spec_parts.specs.DataComputing.{data_result}
use Rattle.iloc_spec_parts.specs.DataLocales.{HasDataFault, made_of, whole_region}
use Rattle.iloc_subtags.specs.Judging.{error_of}
use Rattle.iloc_pieces.specs.Cursor.{IsPast, bytes_left, piece_left, pieces_left, whole_text}
use Rattle.iloc_pieces.specs.declared.place.Cursor.{Cursor}
use Rattle.iloc_pieces.proofs.CursorLemmas.{begins, first_within, length_piece, length_rest, short_variant}
use Rattle.iloc_outline.specs.Identifier.{IsAfterFront, IsFrontRead, front_text}
use Rattle.iloc_outline.specs.Outlines.{BeginsWithLanguage}
use Rattle.iloc_outline.specs.Parts.{front_pieces}
use Rattle.iloc_outline.specs.declared.identifier.Front.{Front}
use Rattle.iloc_outline.proofs.Fronts.{begins_text}
use Rattle.iloc_outline.proofs.Meanings.{refused}
use Rattle.iloc_normalize.specs.Data.{IsDataBehind, IsDataRead, IsHead, data_alone}
use Rattle.iloc_normalize.specs.Subdivisions.{data_behind}
use Rattle.iloc_normalize.specs.Answered.{HasRefusal}
use Rattle.iloc_normalize.specs.declared.Mode.TheVariants as modes
use Rattle.iloc_normalize.specs.declared.data.Data.{Data}
use Rattle.iloc_normalize.specs.declared.data.Data.TheVariants as datas
use Rattle.iloc_normalize.specs.declared.data.DataHead.{DataHead}
use Rattle.iloc_normalize.proofs.FrontAnswers.{data_fault}
use Rattle.iloc_normalize.proofs.Heads.{AreVariants, head_printed, head_with, meant, misfit, words_with}
use Rattle.iloc_outline.proofs.HeadLemmas.{single_starts}
use Rattle.iloc_outline.proofs.PrintingLemmas.{pieces_behind}

alone_is : (r : SmallIdentifier) → data_behind r []
    ≡ Ok (made_of r.language r.script (option_map whole_region r.region) r.variant)
unfolding blocks_result
alone_is r = refl

refusal : (t : Text) (f : Fault) → data_result languages t ≡ Err f → HasRefusal modes.Data t (error_of f)
refusal t f e = refused (HasDataFault languages t) f (error_of f) refl (data_fault t f e)

-- ---- a block behind the head

module _ (w : Text) (len : ℕ) (language : BeginsWithLanguage (take len w)) (vs : List Text)
    (variants : AreVariants vs)
    (few : length vs ≤ 1) (h : DataHead) (head : IsHead w h (head_with (pieces (take len w)) vs)) where
  abbrev t : Text
  t = take len w

  abbrev i : SpelledIdentifier
  i = head_with (pieces t) vs

  -- nothing follows
  pub read_alone : after_region (pieces t) ≡ vs ++ [] → h.end ≤ len → IsDataRead w len (datas.Head h)
  read_alone cut inside = (
    data_alone i,
    meant t language vs [] cut variants few refl ∙ alone_is (small_identifier i),
    record { written = i; head = head; is = refl },
    inside,
  )

  module _ (k : Cursor) (cut : after_region (pieces t) ≡ vs ++ pieces_left k) (window : k.window.now ≡ w)
      (at : k.at ≡ h.end + 1) (end : k.at + k.remaining ≡ len)
      (odd : ((vs ≡ []) × (is_word Variant (piece_left k) ≡ false)) ⊎ (length vs ≡ 1)) where
    by_block : is_one_byte (piece_left k) ≡ true
        → data_result languages t ≡ data_behind (small_identifier i) (pieces_left k)
    by_block single = search (meant, single_starts)

    pub read_on : (d : Data) → IsDataBehind h k d → IsDataRead w len d
    read_on (datas.Head j) r = absurd r
    read_on (datas.Named j v) r = grind (arith, by_block)
    read_on (datas.Refused e) (inl (longer, is)) =
        subst (HasRefusal modes.Data t) (sym is)
        (refusal t InvalidSubtag (misfit t language vs (pieces_left k) cut variants (piece_left k)
        (rest_of (pieces_left k))
        (pieces_behind (bytes_left k)) longer odd))
    read_on (datas.Refused e) (inr (single, (f, is, means))) = grind (arith, refusal, by_block)

-- ---- the head

module _ (w : Text) (len : ℕ) (inside : len ≤ length w) (language : BeginsWithLanguage (take len w))
    (l : Cursor)
    (rest : bytes_left l ≡ take len w) (first : l.at ≡ 0) (size : l.remaining ≡ len)
    (window : l.window.now ≡ w) (m : Cursor) (f : Front) (read : IsFrontRead l m f) where
  abbrev u : Text
  u = take len w

  abbrev fs : List Text
  fs = front_pieces (front_of (pieces u))

  few : f.end ≤ len
  few = let a = read.inside in omega (arith, a, first, size)

  same : pieces_left l ≡ pieces u
  same = ap pieces rest

  whole : whole_text l ≡ u
  whole = begins_text l first ∙ rest

  front_bytes : take f.end w ≡ join fs
  front_bytes = grind (arith, take-take, few, whole, same)

  front_printed : front_text f.script f.region (take f.end w) ≡ join (front_pieces (normal_identifier
      (front_of (pieces u))))
  front_printed = grind (arith, take-take, few, whole, same)

  long : f.end ≡ length (join fs)
  long = sym (length-take-le f.end w (omega (arith, few, inside))) ∙ ap length front_bytes

  -- no variant

  pub front_head : (rs : List Text) → after_region (pieces u) ≡ [] ++ rs
      → IsHead w (record { front = f; end = f.end }) (head_with (pieces u) [])
  front_head rs cut =
      head_printed w (record { front = f; end = f.end }) (head_with (pieces u) [])
      (words_with u language [] rs cut tt) (omega arith) (omega arith) (omega
      (arith, few, inside)) front_bytes front_printed
      (read.within first) (sym (append-nil (take f.end w)))

  -- it is all of the text
  pub all_front : IsAfterFront l None → after_region (pieces u) ≡ [] ++ []
  unfolding front_of after_front
  all_front cut = grind arith

  -- something follows
  module _ (after : IsAfterFront l (Some m)) where
    past : IsPast l m (front_pieces (front_of (pieces_left l)))
    past = after.0

    pub at_front : m.at ≡ f.end + 1
    at_front = grind (arith, same, length_rest, length-append, long)

    pub end_there : m.at + m.remaining ≡ len
    end_there = let a = past.end in omega (arith, a, first, size)

    pub window_there : m.window.now ≡ w
    window_there = past.window ∙ window

    pub pieces_there : after_region (pieces u) ≡ pieces_left m
    pieces_there = ap after_region (sym same) ∙ sym after.1

    text_there : u ≡ join fs ++ 45 ∷ bytes_left m
    text_there = grind arith

    -- a variant
    module _ (word : IsWord Variant (piece_left m)) where
      abbrev pub v : Text
      v = piece_left m

      abbrev pub varied : DataHead
      varied = record { front = f; end = m.at + m.piece_length }

      size_there : m.piece_length ≡ length v
      size_there = length_piece m (short_variant v word)

      pub within_there : m.at + m.piece_length ≤ len
      within_there =
          let a = first_within (bytes_left m) in
          let b = length_rest m in
          omega (arith, a, b, end_there, size_there)

      cut_there : take (m.at + m.piece_length) w ≡ take f.end w ++ (45 ∷ v) ++ []
      cut_there =
          let reach : m.at + m.piece_length ≡ length (join fs) + suc (length v) =
          omega (arith, at_front, long, size_there) in
          sym (take-take (m.at + m.piece_length) len w within_there)
          ∙ ap (take (m.at + m.piece_length)) text_there
          ∙ ap (λ (n : ℕ). take n (join fs ++ 45 ∷ bytes_left m)) reach
          ∙ take-append-add (join fs) (45 ∷ bytes_left m) (suc (length v))
          ∙ (λ j. sym front_bytes j ++ 45 ∷ begins (bytes_left m) j)
          ∙ sym (append-nil (take f.end w ++ 45 ∷ v))

      pub varied_head : (rs : List Text) → after_region (pieces u) ≡ (v ∷ []) ++ rs
          → IsHead w varied (head_with (pieces u) (v ∷ []))
      varied_head rs cut =
          head_printed w varied (head_with (pieces u) (v ∷ [])) (words_with u language (v ∷ []) rs cut
          (word, tt)) (omega arith)
          (omega (arith, at_front)) (omega (arith, within_there, inside)) front_bytes front_printed
          (read.within first)
          (cut_there ∙ append_assoc (take f.end w) (45 ∷ v) [])
