-- The block after a singleton, when all the pieces that are left are read.
use Rattle.std.proofs.Common.{◌≡◌, ◌≢◌, ◌⊎◌, inl, inr, ℕ, Bool, true, false, cond, ◌==◌, List, [], ◌∷◌, refl, ap, ◌∙◌, arith, Option, Some, None, option_map, Result, Ok, Err}
use Rattle.std.specs.Char.{is_ascii_alphanumeric, to_ascii_lowercase}
use Rattle.std.specs.List.{list_all}
use Rattle.std.proofs.lemmas.Bool.{and_parts}
use Rattle.std.proofs.lemmas.Bool.Decides.{nat_tests}
use Rattle.iloc_spec_grammar.specs.Syntax.{code_x, code_u, Text, Kind, Attribute, UnicodeKey, is_word, IsWord, lower, is_one_byte, front, blocks, first_piece}
use Rattle.iloc_spec_grammar.specs.Meaning.{Fault}
use Rattle.iloc_spec_grammar.specs.Reading.{take_first, skip_first}
use Rattle.iloc_spec_grammar.proofs.WordsLaws.{length-attribute, length-unicode_key}
use Rattle.iloc_spec_parts.specs.Small.{SmallIdentifier, SmallLocale}
use Rattle.iloc_spec_parts.specs.SmallComputing.{has_small_keyword, is_u, block_fault, blocks_result}
use Rattle.iloc_langid.specs.SmallLocaleReads.{Keyword}
use Rattle.iloc_subtags.specs.declared.parse_error.ParseError.{ParseError}
use Rattle.iloc_subtags.specs.declared.parse_error.ParseError.TheVariants.{InvalidSubtag, InvalidExtension}
use Rattle.iloc_langid.specs.BlockReads.{answer_of, block_result, refusal_without_key, value_result}
use Rattle.std.proofs.Math.Bool.{and-false}
use Rattle.iloc_normalize.proofs.Behind.{no_attribute as no_empty_attribute, no_word_key}

-- a word is longer than one byte
long_attribute : (p : Text) → IsWord Attribute p → is_one_byte p ≡ false
long_attribute p h = grind (arith, length-attribute)

long_key : (p : Text) → IsWord UnicodeKey p → is_one_byte p ≡ false
long_key p h = grind (arith, length-unicode_key)

-- blocks begin at pieces of one byte

pub blocks_past : (p : Text) (ps : List Text) → is_one_byte p ≡ false → blocks (p ∷ ps) ≡ blocks ps
blocks_past p ps h = grind arith

two_bytes : (c d : ℕ) (p : Text) → is_one_byte (c ∷ d ∷ p) ≡ false
two_bytes c d p = grind (arith, nat_tests)

pub front_all : (ps : List Text) → blocks ps ≡ [] → front ps ≡ ps
front_all [] e = refl
front_all ([] ∷ ps) e = ap (λ l. [] ∷ l) (front_all ps e)
front_all ((c ∷ []) ∷ ps) e = grind arith
front_all ((c ∷ d ∷ p) ∷ ps) e = grind (arith, two_bytes, front_all ps e)

values_no_blocks : (ps : List Text) → list_all (is_word Attribute) ps ≡ true → blocks ps ≡ []
values_no_blocks [] h = refl
values_no_blocks (p ∷ ps) h =
    let parts = and_parts (is_word Attribute p) (list_all (is_word Attribute) ps) h in
    blocks_past p ps (long_attribute p parts.0) ∙ values_no_blocks ps parts.1

keyword_no_blocks : (ps : List Text) → has_small_keyword ps ≡ true → blocks ps ≡ []
keyword_no_blocks ps h = grind (arith, blocks_past, long_key, values_no_blocks)

-- the piece after the singleton says what the fault is, wherever the block ends

module _ (k : Kind) (empty : is_word k [] ≡ false)
    (long : (p : Text) → IsWord k p → is_one_byte p ≡ false) where
  first_front : (ps : List Text) → is_word k (first_piece (front ps)) ≡ is_word k (first_piece ps)
  first_front ps = grind arith

fault_front : (c : ℕ) (ps : List Text) → block_fault (c, front ps) ≡ block_fault (c, ps)
unfolding block_fault
fault_front c ps = grind (arith, no_empty_attribute, long_attribute, no_word_key, long_key)

-- the first block of the pieces from a singleton on, and that nothing follows it

abbrev pub with_keyword : SmallIdentifier → Result Keyword Fault → Result SmallLocale Fault
with_keyword r (Ok k) = Ok (record { id = r; keyword = Some k })
with_keyword r (Err f) = Err f

module _ (r : SmallIdentifier) (c : ℕ) (ps : List Text) where
  alone : blocks_result r ((c, ps) ∷ []) ≡ with_keyword r (block_result c ps)
  unfolding blocks_result block_result
  alone = grind arith

  followed : (d : ℕ × List Text) (bs : List (ℕ × List Text)) → blocks ps ≡ d ∷ bs →
      blocks_result r ((c, front ps) ∷ d ∷ bs) ≡ with_keyword r (block_result c ps)
  unfolding blocks_result block_result
  followed d bs e = grind (arith, keyword_no_blocks, and-false, fault_front)

  pub blocks_read : blocks_result r (blocks ((c ∷ []) ∷ ps)) ≡ with_keyword r (block_result c ps)
  blocks_read = by (to_ascii_lowercase c == code_x)
    where
      at : (bs : List (ℕ × List Text)) → blocks ps ≡ bs →
          blocks_result r ((c, front ps) ∷ bs) ≡ with_keyword r (block_result c ps)
      at [] e = ap (λ l. blocks_result r ((c, l) ∷ [])) (front_all ps e) ∙ alone
      at (d ∷ bs) e = followed d bs e

      by : (b : Bool) →
          blocks_result r (cond b ((c, ps) ∷ []) ((c, front ps) ∷ blocks ps))
          ≡ with_keyword r (block_result c ps)
      by true = alone
      by false = at (blocks ps) refl

-- what taking a word says of the first piece

pub no_attribute : (ps : List Text) → None ≡ option_map lower (take_first (is_word Attribute) ps) →
    InvalidExtension ≡ refusal_without_key ps
no_attribute ps e = grind (arith, no_empty_attribute)

-- after `u`: no key, or a key and its value

pub keyless : (ps rest : List Text) (e : ParseError) →
    None ≡ option_map lower (take_first (is_word UnicodeKey) ps) → rest ≡ skip_first (is_word UnicodeKey) ps →
    e ≡ refusal_without_key rest → Err e ≡ answer_of (block_result code_u ps)
unfolding block_result block_fault
keyless ps rest e none l is = grind (arith, no_word_key)

abbrev pub with_key : Text → Result (Option Text) Fault → Result Keyword Fault
with_key k (Ok v) = Ok (k, v)
with_key k (Err f) = Err f

keyed : (p : Text) (ps : List Text) → IsWord UnicodeKey p →
    block_result code_u (p ∷ ps) ≡ with_key (lower p) (value_result [] ps)
unfolding block_result block_fault value_result
keyed p ps k = grind arith

module _ (ps rest : List Text) (key : Text)
    (is_key : Some key ≡ option_map lower (take_first (is_word UnicodeKey) ps))
    (l : rest ≡ skip_first (is_word UnicodeKey) ps) where
  block_is : block_result code_u ps ≡ with_key key (value_result [] rest)
  block_is = grind (arith, keyed)

  pub value_given : (v : Option Text) → Ok v ≡ answer_of (value_result [] rest) →
      Ok (key, v) ≡ answer_of (block_result code_u ps)
  value_given v e = grind (arith, block_is)

  pub value_refused : (e : ParseError) → Err e ≡ answer_of (value_result [] rest) →
      Err e ≡ answer_of (block_result code_u ps)
  value_refused f e = grind (arith, block_is)

-- the singleton

module _ (c : ℕ) (ps : List Text) where
  pub by_u : (c ≡ 85) ⊎ (c ≡ code_u) → block_result code_u ps ≡ block_result c ps
  unfolding block_result block_fault
  by_u (inl e) = rw e refl
  by_u (inr e) = rw e refl

  no_small_block : is_u c ≡ false → block_result c ps ≡ Err (block_fault (c, ps))
  unfolding block_result
  no_small_block n = rw n refl

  not_u : c ≢ code_u → c ≢ 85 → is_u c ≡ false
  not_u n m = grind (arith, nat_tests)

  no_letter_u : is_ascii_alphanumeric c ≡ false → is_u c ≡ false
  no_letter_u h = grind (arith, nat_tests)

  pub another_singleton : is_ascii_alphanumeric c ≡ true → c ≢ code_u → c ≢ 85 →
      Err InvalidSubtag ≡ answer_of (block_result c ps)
  unfolding block_fault
  another_singleton h n m = grind (arith, no_small_block, not_u)

  pub no_singleton : is_ascii_alphanumeric c ≡ false → Err InvalidExtension ≡ answer_of (block_result c ps)
  unfolding block_fault
  no_singleton h = grind (arith, no_small_block, no_letter_u)

-- for the reader of the block, and of the keyword
pub ruleset singletons = (by_u, another_singleton, no_singleton)

pub ruleset keys = (keyless, value_given)
