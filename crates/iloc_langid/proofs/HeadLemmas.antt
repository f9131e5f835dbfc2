-- From the words at the front and the pieces after them to the whole text.
use Rattle.std.proofs.Common.{◌≡◌, ◌≢◌, ℕ, Bool, true, false, List, [], ◌∷◌, sym, ap, ◌∙◌, subst, arith, Option, Some, None, Result, Ok, Err, MatchResult}
use Rattle.iloc_spec_grammar.specs.Syntax.{Text, pieces, Language, Script, Region, Variant, is_word, IsWord, languages, is_one_byte, front, blocks, head, tail_blocks, first_piece}
use Rattle.iloc_spec_grammar.specs.Reading.{take_first, skip_first, after_region, starts_block}
use Rattle.iloc_spec_grammar.specs.Meaning.{Fault}
use Rattle.iloc_spec_grammar.specs.Meaning as faults
use Rattle.iloc_spec_grammar.proofs.WordsLaws.{length-script, length-region, length-variant}
use Rattle.iloc_spec_grammar.proofs.RawLaws.{languages_table}
use Rattle.iloc_spec_parts.specs.Small.{SmallIdentifier, SmallLocale, IsSmallIdentifier, IsSmall, HasSmallIdentifierFault, no_language, HasSmallFault, bad_head}
use Rattle.iloc_spec_parts.specs.SmallComputing.{small_identifier_result, blocks_result, after_identifier, small_result}
use Rattle.iloc_spec_parts.proofs.SmallLaws.{one_small_identifier, small_identifier_answer, small_identifier_apart, small_answer}
use Rattle.iloc_langid.specs.SmallReads.{Parts, small_of, front_parts, after_parts, SmallFrontReads}
use Rattle.iloc_langid.proofs.SmallLemmas.{parts_whole, parts_more}
use Rattle.iloc_subtags.specs.declared.parse_error.ParseError.{ParseError}
use Rattle.iloc_subtags.specs.declared.parse_error.ParseError.TheVariants.{InvalidLanguage, InvalidSubtag, InvalidExtension, DuplicatedExtension, OutOfMemory}
use Rattle.iloc_langid.specs.SmallLocaleReads.{Keyword, LocaleParts, small_locale_of, SmallLocaleTextReads}
use Rattle.iloc_langid.specs.BlockReads.{answer_of, block_result}
use Rattle.iloc_langid.proofs.BlockLemmas.{with_keyword, blocks_read}
use Rattle.iloc_subtags.specs.Judging.{error_of}
use Rattle.iloc_normalize.proofs.BlockFaults.{head_region}

-- a word of an identifier is longer than one byte

long_script : (p : Text) → IsWord Script p → is_one_byte p ≡ false
long_script p h = grind (arith, length-script)

long_region : (p : Text) → IsWord Region p → is_one_byte p ≡ false
long_region p h = grind (arith, length-region)

long_variant : (p : Text) → IsWord Variant p → is_one_byte p ≡ false
long_variant p h = grind (arith, length-variant)

-- so words are taken from the head alone

module _ (test : Text → Bool) (long : (p : Text) → test p ≡ true → is_one_byte p ≡ false) where
  no_word : (p : Text) → is_one_byte p ≡ true → test p ≡ false
  no_word p e = grind arith

  take_front : (ps : List Text) → take_first test (front ps) ≡ take_first test ps
  take_front ps = grind arith

  skip_front : (ps : List Text) → skip_first test (front ps) ≡ front (skip_first test ps)
  skip_front ps = grind arith

  skip_blocks : (ps : List Text) → blocks (skip_first test ps) ≡ blocks ps
  skip_blocks ps = grind arith

script_front : (ps : List Text) →
    skip_first (is_word Script) (front ps) ≡ front (skip_first (is_word Script) ps)
script_front ps = skip_front (is_word Script) long_script ps

-- a script and a region after the first piece
pub script_at_front : (ps : List Text) →
    take_first (is_word Script) (front ps) ≡ take_first (is_word Script) ps
script_at_front ps = take_front (is_word Script) long_script ps

pub region_at_front : (ps : List Text)
    → take_first (is_word Region) (skip_first (is_word Script) (front ps))
    ≡ take_first (is_word Region) (skip_first (is_word Script) ps)
region_at_front ps = grind (arith, script_front, take_front, long_region)

front_parts-front : (p : Text) (ps : List Text) → front_parts (p ∷ front ps) ≡ front_parts (p ∷ ps)
front_parts-front p ps = grind (arith, script_at_front, region_at_front, take_front, long_variant)

after_parts-front : (p : Text) (ps : List Text) →
    after_parts (p ∷ front ps) ≡ front (after_parts (p ∷ ps))
after_parts-front p ps = ap (skip_first (is_word Variant)) (head_region p ps)
    ∙ skip_front (is_word Variant) long_variant (after_region (p ∷ ps))

blocks-after_parts : (p : Text) (ps : List Text) → blocks (after_parts (p ∷ ps)) ≡ blocks ps
blocks-after_parts p ps = grind (arith, skip_blocks, long_variant, long_region, long_script)

-- what is read from all pieces is read from the head, and what is left begins with the blocks

head_gives : (ps rest : List Text) (p : Parts) → SmallFrontReads ps rest (Ok p) →
    SmallFrontReads (head ps) (front rest) (Ok p)
head_gives [] rest p g = (g.0, g.1, ap front g.2)
head_gives (q ∷ ps) rest p g =
    (g.0, g.1 ∙ sym (front_parts-front q ps), ap front g.2 ∙ sym (after_parts-front q ps))

blocks_left : (ps rest : List Text) (p : Parts) → SmallFrontReads ps rest (Ok p) →
    tail_blocks ps ≡ blocks rest
blocks_left [] rest p g = ap blocks (sym g.2)
blocks_left (q ∷ ps) rest p g = sym (blocks-after_parts q ps) ∙ ap blocks (sym g.2)

-- the plain program on a head that is read

no_pieces : {P : Type 0} (r : SmallIdentifier) → IsSmallIdentifier languages [] r → P
no_pieces r h = grind arith

result_is : (ps : List Text) (r : SmallIdentifier) → IsSmallIdentifier languages ps r →
    small_identifier_result languages ps ≡ Ok r
result_is [] r h = no_pieces r h
result_is (p ∷ ps) r h =
    by (small_identifier_result languages (p ∷ ps)) (small_identifier_answer languages p ps)
  where
    by : (o : Result SmallIdentifier Fault) →
        MatchResult o (IsSmallIdentifier languages (p ∷ ps)) (HasSmallIdentifierFault languages (p ∷ ps)) →
        o ≡ Ok r
    by (Ok s) k = ap Ok (one_small_identifier (p ∷ ps) s r k h)
    by (Err f) k = absurd (small_identifier_apart (p ∷ ps) r f h k)

fault_reads : (t : Text) (f : Fault) → HasSmallFault languages t f →
    SmallLocaleTextReads t (Err (error_of f))
fault_reads t f h = grind arith

-- The whole text, where its head is read and these pieces are left.

abbrev pub with_parts : Parts → Option Keyword → LocaleParts
with_parts p k = (p.0, p.1, p.2, p.3, k)

module _ (t : Text) (ps rest : List Text) (p : Parts) (e : ps ≡ pieces t)
    (g : SmallFrontReads ps rest (Ok p)) where
  result_after : front rest ≡ [] → small_result languages t ≡ after_identifier (Ok (small_of p)) (blocks rest)
  unfolding small_result
  result_after n =
      ap
      (λ (l : List Text). after_identifier (small_identifier_result languages (head l)) (tail_blocks l))
      (sym e)
      ∙ ap (λ o. after_identifier o (tail_blocks ps))
      (result_is (head ps) (small_of p) (parts_whole (head ps) (front rest) p (head_gives ps rest p g) n))
      ∙ ap (after_identifier (Ok (small_of p))) (blocks_left ps rest p g)

  answer_at : (o : Result SmallLocale Fault) → small_result languages t ≡ o →
      MatchResult o (IsSmall languages t) (HasSmallFault languages t)
  answer_at o is = grind (arith, small_answer, languages_table)

  pub nothing_more : rest ≡ [] → SmallLocaleTextReads t (Ok (with_parts p None))
  unfolding after_identifier blocks_result
  nothing_more n = answer_at (Ok (small_locale_of (with_parts p None)))
      (result_after (ap front n) ∙ ap (λ l. after_identifier (Ok (small_of p)) (blocks l)) n)

  pub more_pieces : starts_block rest ≡ false → SmallLocaleTextReads t (Err InvalidSubtag)
  more_pieces more =
      subst (λ (l : List Text). HasSmallIdentifierFault languages (head l) faults.InvalidSubtag →
      HasSmallFault languages t faults.InvalidSubtag)
      (sym e) (λ h. bad_head h)
      (parts_more (head ps) (front rest) p (head_gives ps rest p g) (some rest more))
    where
      some : (qs : List Text) → starts_block qs ≡ false → front qs ≢ []
      some qs h = grind arith

  module _ (c : ℕ) (later : List Text) (n : rest ≡ (c ∷ []) ∷ later) where
    block_answer : MatchResult (with_keyword (small_of p) (block_result c later)) (IsSmall languages t)
        (HasSmallFault languages t)
    unfolding after_identifier
    block_answer = answer_at (with_keyword (small_of p) (block_result c later)) (result_after (ap front n)
        ∙ ap (λ l. after_identifier (Ok (small_of p)) (blocks l)) n ∙ blocks_read (small_of p) c later)

    pub keyword_read : (k : Keyword) → Ok k ≡ answer_of (block_result c later) →
        SmallLocaleTextReads t (Ok (with_parts p (Some k)))
    keyword_read k is = by (block_result c later) block_answer is
      where
        by : (o : Result Keyword Fault) →
            MatchResult (with_keyword (small_of p) o) (IsSmall languages t) (HasSmallFault languages t) →
            Ok k ≡ answer_of o → SmallLocaleTextReads t (Ok (with_parts p (Some k)))
        by (Ok x) h is = let same : x ≡ k = cc in
            subst (λ (y : Keyword). SmallLocaleTextReads t (Ok (with_parts p (Some y)))) same h
        by (Err f) h is = cc

    pub block_refused : (r : ParseError) → Err r ≡ answer_of (block_result c later) →
        SmallLocaleTextReads t (Err r)
    block_refused r is = by (block_result c later) block_answer is
      where
        by : (o : Result Keyword Fault) →
            MatchResult (with_keyword (small_of p) o) (IsSmall languages t) (HasSmallFault languages t) →
            Err r ≡ answer_of o → SmallLocaleTextReads t (Err r)
        by (Ok x) h is = cc
        by (Err f) h is = let same : error_of f ≡ r = cc in
            subst (λ (s : ParseError). SmallLocaleTextReads t (Err s)) same (fault_reads t f h)

-- its first piece is no language

pub front_refused : (t : Text) (ps rest : List Text) (r : ParseError) → ps ≡ pieces t →
    SmallFrontReads ps rest (Err r) → SmallLocaleTextReads t (Err r)
front_refused t ps rest InvalidLanguage e g = bad_head (subst
    (λ (l : List Text). HasSmallIdentifierFault languages (head l) faults.InvalidLanguage) e (by ps g.1))
  where
    by : (qs : List Text) → is_word (Language languages) (first_piece qs) ≡ false →
        HasSmallIdentifierFault languages (head qs) faults.InvalidLanguage
    by [] h = no_language h
    by (q ∷ qs) h = no_language h
front_refused t ps rest InvalidSubtag e g = let other = g.0 in cc
front_refused t ps rest InvalidExtension e g = let other = g.0 in cc
front_refused t ps rest DuplicatedExtension e g = let other = g.0 in cc
front_refused t ps rest OutOfMemory e g = g
