-- From a head and blocks that were read to the outline of a text.
use Rattle.std.proofs.Common.{◌≡◌, Bool, true, List, [], ◌∷◌, ◌++◌, length, map, refl, sym, ap, ◌∙◌, arith, None, append-nil, length-append}
use Rattle.std.specs.Char.{to_ascii_lowercase}
use Rattle.std.proofs.Math.Seq.{take-length}
use Rattle.std.proofs.lemmas.List.{map-append}
use Rattle.iloc_spec_grammar.specs.Syntax.{Text, Identifier, blocks, dashes, front, head, join, languages, lower, pieces, tail_blocks}
use Rattle.iloc_spec_grammar.specs.Meaning.{IdentifierMeans, Means, normal_identifier}
use Rattle.iloc_spec_grammar.specs.Tree.{meaning}
use Rattle.iloc_spec_grammar.specs.Values.{identifier_text, text}
use Rattle.iloc_spec_grammar.specs.Reading.{after_head, from_block, written_of}
use Rattle.iloc_spec_grammar.specs.Computing.{first_fault}
use Rattle.iloc_spec_grammar.proofs.PiecesLaws.{join-pieces}
use Rattle.iloc_spec_grammar.proofs.PartTexts.{join-append}
use Rattle.iloc_spec_grammar.proofs.Readings.{after_language, blocks_skip, long_after_language}
use Rattle.iloc_subtags.specs.declared.parse_error.ParseError.{ParseError}
use Rattle.iloc_outline.specs.Blocks.{AreBlocksRead, ReadsBlocks}
use Rattle.iloc_outline.specs.Identifier.{front_text}
use Rattle.iloc_pieces.specs.Cursor.{pieces_left, whole_text}
use Rattle.iloc_outline.specs.Outlines.{Gives, IsIdentifierOutlined, IsLimit, IsLocaleOutlined, ReadsHead, parts_text}
use Rattle.iloc_outline.specs.Parts.{Part, blocks_parts, front_pieces, variant_parts}
use Rattle.iloc_spans.specs.Spans.{held_spans}
use Rattle.iloc_outline.specs.declared.blocks.Blocks.TheVariants.{Refused, Full}
use Rattle.iloc_pieces.specs.declared.place.Cursor.{Cursor}
use Rattle.iloc_outline.specs.declared.outline.Outline.{Outline}
use Rattle.iloc_outline.specs.declared.outline.Outlined.TheVariants as outlined
use Rattle.iloc_spans.specs.declared.spans.Spans.{Spans}
use Rattle.iloc_outline.proofs.BlocksLemmas.{blocks_behind, plain_variants}
use Rattle.iloc_outline.proofs.BodyLemmas.{front_whole}
use Rattle.iloc_outline.proofs.Meanings.{has_fault, identifier_text_is, means_read, parts_dashes, parts_text-append, refused, text_is}
use Rattle.iloc_outline.proofs.SpansLemmas.{spell_length}

-- ---- where blocks begin

-- all pieces are the head
pub all_head : (ps : List Text) (i : Identifier) → IdentifierMeans languages ps i → (head ps ≡ ps)
    × (tail_blocks ps ≡ [])
all_head ps i m =
    let w = m.written in
    let whole : front (after_language w) ≡ after_language w =
    front_whole (after_language w) (long_after_language w m.grammatical.words) in (
      ap head m.spelled ∙ ap (λ qs. w.language ∷ qs) whole ∙ sym m.spelled,
      cc (
        m.spelled,
        append-nil (after_language w),
        blocks_behind (after_language w) []
            (ap front (append-nil (after_language w)) ∙ whole) refl,
      ),
    )

blocks_from : (ps : List Text) → blocks (from_block ps) ≡ blocks ps
blocks_from [] = refl
blocks_from (p ∷ ps) = grind (arith, blocks_skip, blocks_from ps)

-- blocks begin behind the head
pub blocks_after : (ps : List Text) → tail_blocks ps ≡ blocks (after_head ps)
blocks_after [] = refl
blocks_after (p ∷ ps) = sym (blocks_from ps)

-- ---- texts in order

-- all of a text comes first, in lower case but for a script and a region
abbrev pub whole : Text → Outline → Outline
whole t o = record { front = length t; script = o.script; region = o.region }

lower_dash : (p : Text) → lower (45 ∷ p) ≡ 45 ∷ lower p
unfolding lower
lower_dash p = refl

pub lower-append : (p q : Text) → lower (p ++ q) ≡ lower p ++ lower q
unfolding lower
lower-append p q = map-append to_ascii_lowercase p q

lower_nothing : lower [] ≡ []
unfolding lower
lower_nothing = refl

pub lower-dashes : (ps : List Text) → lower (dashes ps) ≡ dashes (map lower ps)
lower-dashes [] = lower_nothing
lower-dashes (p ∷ ps) = lower-append (45 ∷ p) (dashes ps) ∙ (λ j. lower_dash p j ++ lower-dashes ps j)

-- a text is given by an outline of all of it, and no span
given_whole : (t : Text) (o : Outline) (none : Spans) (normal : Text) → held_spans none ≡ [] → normal
    ≡ front_text o.script o.region t → Gives t (whole t o) none normal
given_whole t o none normal e same = grind (arith, take-length, append-nil)

-- ---- identifiers

module _ (t : Text) (o : Outline) (spans : Spans) (n : Bool) (h : ReadsHead t (pieces t) o spans n) where
  -- its front, and its variants behind it
  pub identifier_given : Gives t o spans (identifier_text (normal_identifier h.written))
  identifier_given = record {
    parts = variant_parts h.written.variants;
    inside = h.inside;
    spell = h.variants;
    text = cc (identifier_text_is (pieces t) h.written h.means, h.front);
  }

  in_order : n ≡ true → front_text o.script o.region t ≡ identifier_text (normal_identifier h.written)
  in_order e = h.order e [] (sym (join-pieces t) ∙ sym (append-nil (join (pieces t))))
      ∙ ap (λ x. join (front_pieces (normal_identifier h.written)) ++ x)
      (simp (lower_nothing, append-nil))
      ∙ sym (identifier_text_is (pieces t) h.written h.means)

  -- the identifier is all of the text
  pub identifier_outlined : IsIdentifierOutlined t spans (outlined.Normal o)
  identifier_outlined = (normal_identifier h.written, h.means, identifier_given)

  -- and it is in order
  pub identifier_in_order : n ≡ true → (none : Spans) → held_spans none ≡ []
      → IsIdentifierOutlined t none (outlined.Normal (whole t o))
  identifier_in_order e none z = search (given_whole, in_order)

-- ---- locales without blocks

module _ (t : Text) (o : Outline) (spans : Spans) (n : Bool) (h : ReadsHead t (pieces t) o spans n) where
  alone : (head (pieces t) ≡ pieces t) × (tail_blocks (pieces t) ≡ [])
  alone = all_head (pieces t) (normal_identifier h.written) h.means

  means_head : IdentifierMeans languages (head (pieces t)) (normal_identifier h.written)
  means_head = rw alone.0 h.means

  no_fault : first_fault languages [] (tail_blocks (pieces t)) ≡ None
  no_fault = ap (first_fault languages []) alone.1

  same_text : text (meaning (written_of (pieces t))) ≡ identifier_text (normal_identifier h.written)
  same_text = text_is t h.written means_head no_fault
      ∙ ap (λ bs. join (front_pieces (normal_identifier h.written)) ++ parts_text
      (variant_parts h.written.variants ++ blocks_parts bs)) alone.1
      ∙ ap (λ ps. join (front_pieces (normal_identifier h.written)) ++ parts_text ps)
      (append-nil (variant_parts h.written.variants))
      ∙ sym (identifier_text_is (pieces t) h.written h.means)

  -- the identifier is all of the text
  pub alone_outlined : IsLocaleOutlined t spans (outlined.Normal o)
  alone_outlined = (
    meaning (written_of (pieces t)),
    means_read t (normal_identifier h.written) means_head no_fault,
    rw same_text (identifier_given t o spans n h),
  )

  -- and it is in order
  pub alone_in_order : n ≡ true → (none : Spans) → held_spans none ≡ []
      → IsLocaleOutlined t none (outlined.Normal (whole t o))
  alone_in_order e none z = (
    meaning (written_of (pieces t)),
    means_read t (normal_identifier h.written) means_head no_fault,
    given_whole t o none (text (meaning (written_of (pieces t)))) z
        (same_text ∙ sym (in_order t o spans n h e)),
  )

-- ---- locales with blocks

module _ (t : Text) (o : Outline) (before : Spans) (m : Bool) (l : Cursor)
    (h : ReadsHead t (head (pieces t)) o before m)
    (same : whole_text l ≡ t) (cut : pieces t ≡ head (pieces t) ++ pieces_left l)
    (after : after_head (pieces t) ≡ pieces_left l)
    (spans : Spans) (n : Bool) where
  its_blocks : tail_blocks (pieces t) ≡ blocks (pieces_left l)
  its_blocks = blocks_after (pieces t) ∙ ap blocks after

  abbrev variants : List Part
  variants = variant_parts h.written.variants

  abbrev parts : List Part
  parts = blocks_parts (blocks (pieces_left l))

  normal_text : first_fault languages [] (blocks (pieces_left l)) ≡ None
      → text (meaning (written_of (pieces t))) ≡ join
      (front_pieces (normal_identifier h.written)) ++ parts_text (variants ++ parts)
  normal_text e = grind (arith, text_is, its_blocks)

  means_it : first_fault languages [] (blocks (pieces_left l)) ≡ None
      → Means languages t (meaning (written_of (pieces t)))
  means_it e = search (means_read, its_blocks)

  -- the blocks are good
  pub locale_outlined : ReadsBlocks l before spans m n → IsLocaleOutlined t spans (outlined.Normal o)
  locale_outlined r = grind (arith, means_it, plain_variants, normal_text)

  -- the text goes on behind its head
  goes_on : t ≡ join (head (pieces t)) ++ dashes (pieces_left l)
  goes_on = sym (join-pieces t) ∙ ap join cut ∙
      (grind (arith, join-append))

  -- and all is in order
  pub locale_in_order : ReadsBlocks l before spans m n → n ≡ true → (none : Spans) → held_spans none ≡ []
      → IsLocaleOutlined t none (outlined.Normal (whole t o))
  locale_in_order r e none z = grind (
    arith,
    lower-dashes,
    parts_dashes,
    means_it,
    given_whole,
    normal_text,
    parts_text-append,
    goes_on,
  )

  -- a block is bad
  pub locale_refused : (e : ParseError) → AreBlocksRead l before spans m n (Refused e)
      → IsLocaleOutlined t spans (outlined.Refused e)
  locale_refused e r = search (refused, has_fault, its_blocks)

  -- there is no room for what the pieces may need
  pub locale_full : AreBlocksRead l before spans m n Full → IsLimit t
  locale_full r = grind (arith, spell_length, length-append)
