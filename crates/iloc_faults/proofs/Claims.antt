-- What the fault of the rest of a locale is, by what was read last: that of the rules of the grammar.
use Rattle.std.proofs.Common.{◌≡◌, ℕ, Bool, true, false, not, cond, ◌&&◌, ◌==◌, List, [], ◌∷◌, length, Option, Some, None, nat_lt, refl, ◌∙◌, arith}
use Rattle.std.specs.List.{list_all}
use Rattle.std.specs.Char.{is_ascii_alphanumeric, to_ascii_lowercase}
use Rattle.std.proofs.lemmas.Bool.{and_parts, not-true, or_parts}
use Rattle.iloc_spec_grammar.specs.Syntax.{code_u, Text, Block, code_t, code_x, PrivateSubtag, languages, is_word, word_cmp, lower_singleton, is_other_singleton, front, blocks}
use Rattle.iloc_spec_grammar.specs.Meaning.{Fault, InvalidSubtag, InvalidExtension, DuplicatedExtension}
use Rattle.iloc_spec_grammar.specs.Reading.{transform_of}
use Rattle.iloc_spec_grammar.specs.Computing.{all_different, is_transform, is_other, is_private, is_block, first_fault, repeats_variant}
use Rattle.iloc_spec_grammar.proofs.Singletons.{IsKind, of_u, of_t, of_x, another, kind_of, lower_letter}
use Rattle.iloc_normalize.specs.declared.Mode.TheVariants.{Locale}
use Rattle.iloc_faults.specs.declared.state.Part.{Part}
use Rattle.iloc_faults.specs.declared.state.Part.TheVariants.{Head, Transform, Source, FieldKey, FieldValue, Unicode, Keyword, Other, OtherWord, Private, PrivateWord}
use Rattle.iloc_faults.specs.declared.state.Stage.{Stage}
use Rattle.iloc_faults.specs.Next.{Reached, plain, may_end, takes_any, part_of, is_seen, outcome}
use Rattle.iloc_faults.proofs.Words.{good, repeats, good_end}
use Rattle.iloc_faults.proofs.Bodies.{of_unicode, unicode_is, has_length, after_value, after_key, or_false, after_word, repeats_none}

-- the fault of the blocks that follow, if the block is good
abbrev pub block_answer : Bool → Text → List Text → Option Fault
block_answer fits seen ps = cond fits (first_fault languages seen (blocks ps)) (Some InvalidExtension)

-- the same after `t`, where a variant may be repeated
abbrev pub transform_answer : Bool → Bool → Text → List Text → Option Fault
transform_answer fits again seen ps = cond fits (first_fault languages seen (blocks ps))
    (cond again (Some InvalidSubtag) (Some InvalidExtension))

-- the same in the head
abbrev pub head_answer : Bool → Text → List Text → Option Fault
head_answer fits seen ps = cond fits (first_fault languages seen (blocks ps)) (Some InvalidSubtag)

-- words of an identifier were read
abbrev pub in_words : (Stage → Part) → Stage → List Text → Text → Reached
in_words of stage vs seen = record { part = of stage; variants = vs; seen = seen }

abbrev pub Differ : List Text → Type 0
Differ vs = all_different word_cmp vs ≡ true

pub record Claims (ps : List Text) : Type 0 where
  pub keyword : (seen : List ℕ) →
      outcome Locale (plain seen Keyword) ps ≡ block_answer (list_all of_unicode (front ps)) seen ps
  pub unicode : (seen : List ℕ) →
      outcome Locale (plain seen Unicode) ps
      ≡ block_answer (list_all of_unicode (front ps) && nat_lt 0 (length (front ps))) seen ps
  pub other_word : (seen : List ℕ) →
      outcome Locale (plain seen OtherWord) ps ≡ block_answer (list_all has_length (front ps)) seen ps
  pub other : (seen : List ℕ) →
      outcome Locale (plain seen Other) ps ≡ block_answer (is_other (front ps)) seen ps
  pub field_value : (seen : List ℕ) →
      outcome Locale (plain seen FieldValue) ps ≡ block_answer (after_value (front ps)) seen ps
  pub field_key : (seen : List ℕ) →
      outcome Locale (plain seen FieldKey) ps ≡ block_answer (after_key (front ps)) seen ps
  pub source : (stage : Stage) (vs : List Text) (seen : List ℕ) → Differ vs →
      outcome Locale (in_words Source stage vs seen) ps
      ≡ transform_answer (after_word stage vs (front ps)) (repeats stage vs (front ps)) seen ps
  pub transform : (seen : List ℕ) →
      outcome Locale (plain seen Transform) ps
      ≡ transform_answer (is_transform languages (transform_of (front ps)))
      (repeats_variant languages (front ps)) seen ps
  pub private_word : (seen : List ℕ) →
      outcome Locale (plain seen PrivateWord) ps
      ≡ cond (list_all (is_word PrivateSubtag) ps) None (Some InvalidExtension)
  pub private : (seen : List ℕ) →
      outcome Locale (plain seen Private) ps ≡ cond (is_private ps) None (Some InvalidExtension)
  pub head : (stage : Stage) (vs : List Text) (seen : List ℕ) → Differ vs →
      outcome Locale (in_words Head stage vs seen) ps ≡ head_answer (good stage vs (front ps)) seen ps

-- ---- nothing is left

pub at_end : Claims []
unfolding transform_of
at_end = grind (arith, good_end, repeats_none)

-- ---- a block begins

-- the fault of a block with a new singleton, or of those that follow
abbrev pub rest_fault : Text → Block → List Block → Option Fault
rest_fault seen b bs = cond (is_block languages b) (first_fault languages (lower_singleton b ∷ seen) bs)
    (cond ((lower_singleton b == code_t) && repeats_variant languages b.1) (Some InvalidSubtag)
    (Some InvalidExtension))

-- the block of the singleton and of what belongs to it
abbrev pub body_fault : ℕ → Text → List Text → Option Fault
body_fault c seen ps = cond (to_ascii_lowercase c == code_x) (rest_fault seen (c, ps) [])
    (rest_fault seen (c, front ps) (blocks ps))

-- the same of any block
abbrev pub block_fault : Bool → Bool → ℕ → Text → List Text → Option Fault
block_fault letter second c seen ps =
    cond (not letter) (Some InvalidExtension) (cond second (Some DuplicatedExtension) (body_fault c seen ps))

-- another singleton is none of the three
apart : (c : ℕ) → is_other_singleton c ≡ true →
    ((c == code_t) ≡ false) × ((c == code_u) ≡ false) × ((c == code_x) ≡ false)
apart c h = grind (arith, or_parts, not-true, and_parts)

module _ {ps : List Text} (at : Claims ps) where
  of_block : (c : ℕ) (seen : List ℕ) → is_ascii_alphanumeric c ≡ true →
      outcome Locale (plain (to_ascii_lowercase c ∷ seen) (part_of (to_ascii_lowercase c))) ps
      ≡ body_fault c seen ps
  of_block c seen a =
      grind (arith, kind_of, lower_letter, IsKind, of_u, unicode_is, of_t, of_x, or_false, another, apart)

  pub begins : (c : ℕ) (part : Part) (vs : List Text) (seen : List ℕ) → may_end part ≡ true →
      takes_any part ≡ false
      → outcome Locale (record { part = part; variants = vs; seen = seen }) ((c ∷ []) ∷ ps)
      ≡ first_fault languages seen (blocks ((c ∷ []) ∷ ps))
  begins c part vs seen e t =
      both (is_ascii_alphanumeric c) refl (is_seen seen c) refl ∙ shape (to_ascii_lowercase c == code_x) refl
    where
      both : (a : Bool) → is_ascii_alphanumeric c ≡ a → (s : Bool) → is_seen seen c ≡ s
          → outcome Locale (record { part = part; variants = vs; seen = seen }) ((c ∷ []) ∷ ps)
          ≡ block_fault (is_ascii_alphanumeric c) (is_seen seen c) c seen ps
      both false a s f = rw (t, e, a) refl
      both true a true f = rw (t, e, a, f) refl
      both true a false f = rw (t, e, a, f) (of_block c seen a)

      shape : (x : Bool) → (to_ascii_lowercase c == code_x) ≡ x →
          block_fault (is_ascii_alphanumeric c) (is_seen seen c) c seen ps
          ≡ first_fault languages seen (blocks ((c ∷ []) ∷ ps))
      shape true x = rw (x, x) refl
      shape false x = rw (x, x) refl
