-- What a head means as a data locale, and behind it a block of `u`.
use Rattle.std.proofs.Common.{◌≡◌, ◌⊎◌, inl, inr, ℕ, ◌==◌, Bool, true, false, cond, ◌&&◌, nat_le, List, [], ◌∷◌, ◌++◌, flat_map, codes, Option, None, Some, option_map, Result, Ok, Err, refl, sym, ap, ◌∙◌, append-nil, arith}
use Rattle.std.specs.Prelude.{if◌then◌else◌, option_and_then, ok_or}
use Rattle.std.specs.Char.{is_ascii_alphanumeric, to_ascii_lowercase}
use Rattle.std.proofs.lemmas.Bool.{and_parts}
use Rattle.iloc_spec_grammar.specs.Syntax.{code_x, Text, Attribute, UnicodeKey, IsWord, is_same, is_word, lower, front, blocks, first_piece}
use Rattle.iloc_spec_grammar.specs.Tree.{block_pieces}
use Rattle.iloc_spec_grammar.specs.Meaning.{Fault, InvalidExtension, InvalidSubtag, normal_values}
use Rattle.iloc_spec_grammar.specs.Reading.{first_item, rest_of}
use Rattle.iloc_spec_grammar.proofs.FaultLaws.{all_blocks}
use Rattle.iloc_spec_grammar.proofs.Readings.{long_attribute, blocks_skip}
use Rattle.iloc_spec_parts.specs.Small.{SmallIdentifier}
use Rattle.iloc_spec_parts.specs.SmallComputing.{block_fault, blocks_result, has_small_keyword, is_small_block, is_u}
use Rattle.iloc_spec_parts.specs.DataLocales.{DataLocale, agreed, made_of, named_subdivision}
use Rattle.iloc_spec_parts.specs.Subdivisions.{Subdivision}
use Rattle.iloc_normalize.specs.Subdivisions.{MeansWithU, data_behind, data_with, has_small_value}
use Rattle.iloc_normalize.proofs.BlockFaults.{attribute_no_key, fault_is, front_first, key_no_attribute, letter_u, no_key, no_word, values_whole}
use Rattle.iloc_pieces.proofs.RunWords.{and-false}
use Rattle.iloc_spec_parts.proofs.SmallTrees.{long_key}
use Rattle.iloc_outline.proofs.BodyLemmas.{front_first as front_long}

-- ---- the first piece

-- what holds of the first piece, and of none, holds of the first up to a block
first_front : (P : Text → Type 0) → P [] → (ps : List Text) → P (first_piece ps)
    → P (first_piece (front ps))
first_front P none [] h = none
first_front P none (p ∷ ps) h = grind arith

pub no_attribute : is_word Attribute [] ≡ false
unfolding is_word
no_attribute = refl

pub no_word_key : is_word UnicodeKey [] ≡ false
unfolding is_word
no_word_key = refl

-- ---- the keyword

small_keyword : (ps : List Text) → has_small_value (rest_of ps) ≡ false → has_small_keyword ps ≡ false
small_keyword [] e = refl
small_keyword (p ∷ ps) e = ap (λ (b : Bool). is_word UnicodeKey p && b) e ∙ and-false (is_word UnicodeKey p)

module _ (c : ℕ) (u : is_u c ≡ true) (r : SmallIdentifier) (ps : List Text) where
  letter : is_ascii_alphanumeric c ≡ true
  letter = letter_u c u

  no_x : (to_ascii_lowercase c == code_x) ≡ false
  no_x = grind arith

  blocks_are : blocks ((c ∷ []) ∷ ps) ≡ (c, front ps) ∷ blocks ps
  blocks_are = ap (λ (b : Bool). cond b ((c, ps) ∷ []) ((c, front ps) ∷ blocks ps)) no_x

  -- another block than that of a small locale has its fault
  bad : (f : Fault) → is_small_block (c, front ps) (blocks ps) ≡ false → block_fault (c, front ps) ≡ f
      → data_behind r ((c ∷ []) ∷ ps) ≡ Err f
  unfolding blocks_result
  bad f e b = grind arith

  not_small : has_small_keyword (front ps) ≡ false → is_small_block (c, front ps) (blocks ps) ≡ false
  not_small e = by (blocks ps)
    where
      by : (bs : List (ℕ × List Text)) → is_small_block (c, front ps) bs ≡ false
      by [] = ap (λ (b : Bool). is_u c && b) e ∙ and-false (is_u c)
      by (d ∷ bs) = refl

  -- an attribute
  pub attribute_behind : IsWord Attribute (first_piece ps)
      → data_behind r ((c ∷ []) ∷ ps) ≡ Err InvalidSubtag
  attribute_behind k =
      grind (arith, front_first, long_attribute, attribute_no_key, bad, not_small, no_key, fault_is, letter)

  -- neither an attribute nor a key
  pub no_key_behind : is_word Attribute (first_piece ps) ≡ false
      → is_word UnicodeKey (first_piece ps) ≡ false
      → data_behind r ((c ∷ []) ∷ ps) ≡ Err InvalidExtension
  no_key_behind a k =
      let attribute = first_front (λ p. is_word Attribute p ≡ false) no_attribute ps a in
      let key = first_front (λ p. is_word UnicodeKey p ≡ false) no_word_key ps k in
      grind (arith, bad, not_small, no_key, fault_is, letter)

  -- a key, and what is none of its values, or too many of them
  pub misfit_behind : IsWord UnicodeKey (first_piece ps) → has_small_value (rest_of ps) ≡ false
      → data_behind r ((c ∷ []) ∷ ps) ≡ Err InvalidSubtag
  misfit_behind k v =
      let same = front_first ps (long_key (first_piece ps) k) in
      let attribute : is_word Attribute (first_piece (front ps)) ≡ false =
      ap (is_word Attribute) same ∙ key_no_attribute (first_piece ps) k in
      let key : is_word UnicodeKey (first_piece (front ps)) ≡ true = ap (is_word UnicodeKey) same ∙ k in
      bad InvalidSubtag (by (blocks ps) refl) (fault_is (c, front ps) false true letter u attribute key)
    where
      by : (bs : List (ℕ × List Text)) → blocks ps ≡ bs → is_small_block (c, front ps) bs ≡ false
      by [] none =
          let whole : front ps ≡ ps =
          sym (append-nil (front ps)) ∙ ap (λ bs. front ps ++ flat_map block_pieces bs) (sym none)
          ∙ all_blocks ps in
          ap (λ (b : Bool). is_u c && b) (ap has_small_keyword whole ∙ small_keyword ps v)
          ∙ and-false (is_u c)
      by (d ∷ bs) e = refl

-- what the keyword makes of the head
abbrev outcome : SmallIdentifier → Bool → Option Subdivision → Result DataLocale Fault
outcome r sd o = ok_or (option_map (λ part. made_of r.language r.script part r.variant)
    (if sd then option_map (λ s. Some (agreed r.region s)) o else None)) InvalidExtension

-- a key and one value at most
module _ (c : ℕ) (u : is_u c ≡ true) (r : SmallIdentifier) (p : Text) (qs : List Text)
    (key : IsWord UnicodeKey p)
    (small : has_small_value qs ≡ true) where
  good : data_behind r ((c ∷ []) ∷ p ∷ qs)
      ≡ outcome r (is_same (lower p) (codes "sd")) (option_and_then named_subdivision (first_item
      (normal_values qs)))
  unfolding blocks_result
  good = grind (arith, and_parts, nat_le, values_whole, long_key, front_long, blocks_skip, blocks_are)

  -- which is not `sd`, or names no subdivision
  unnamed_behind : (is_same (lower p) (codes "sd") ≡ false)
      ⊎ (option_and_then named_subdivision (first_item (normal_values qs)) ≡ None)
      → data_behind r ((c ∷ []) ∷ p ∷ qs) ≡ Err InvalidExtension
  unnamed_behind (inl other) = search good
  unnamed_behind (inr none) = grind (arith, good)

  named_behind : (s : Subdivision) → is_same (lower p) (codes "sd") ≡ true
      → option_and_then named_subdivision (first_item (normal_values qs)) ≡ Some s
      → data_behind r ((c ∷ []) ∷ p ∷ qs) ≡ Ok (data_with r s)
  named_behind s sd names = good ∙ (λ j. outcome r (sd j) (names j))

-- the same by what the pieces are
module _ (ps : List Text) (key : IsWord UnicodeKey (first_piece ps)) (small : has_small_value
    (rest_of ps) ≡ true) where
  pub unnamed_pieces : (is_same (lower (first_piece ps)) (codes "sd") ≡ false)
      ⊎ (option_and_then named_subdivision (first_item (normal_values (rest_of ps))) ≡ None)
      → MeansWithU ps (λ r. Err InvalidExtension)
  unnamed_pieces none c u r = by ps key small none
    where
      by : (ps : List Text) → IsWord UnicodeKey (first_piece ps) → has_small_value (rest_of ps) ≡ true
          → (is_same (lower (first_piece ps)) (codes "sd") ≡ false)
          ⊎ (option_and_then named_subdivision (first_item (normal_values (rest_of ps))) ≡ None)
          → data_behind r ((c ∷ []) ∷ ps) ≡ Err InvalidExtension
      by [] k s n = absurd (no_word k)
      by (p ∷ qs) k s n = unnamed_behind c u r p qs k s n

  pub named_pieces : (s : Subdivision) → is_same (lower (first_piece ps)) (codes "sd") ≡ true
      → option_and_then named_subdivision (first_item (normal_values (rest_of ps))) ≡ Some s
      → MeansWithU ps (λ r. Ok (data_with r s))
  named_pieces s sd names c u r = by ps key small sd names
    where
      by : (ps : List Text) → IsWord UnicodeKey (first_piece ps) → has_small_value (rest_of ps) ≡ true
          → is_same (lower (first_piece ps)) (codes "sd") ≡ true
          → option_and_then named_subdivision (first_item (normal_values (rest_of ps))) ≡ Some s
          → data_behind r ((c ∷ []) ∷ ps) ≡ Ok (data_with r s)
      by [] k l e n = absurd (no_word k)
      by (p ∷ qs) k l e n = named_behind c u r p qs k l s e n
