-- The pieces that a transform writes.
use Rattle.std.proofs.Common.{◌≡◌, ℕ, Bool, true, false, not, cond, ◌&&◌, ◌||◌, ◌==◌, List, [], ◌∷◌, ◌++◌, length, nat_lt, refl, sym, ap, ◌∙◌, arith, Option, Some, None, option_map, is_some}
use Rattle.std.proofs.lemmas.Bool.Decides.{nat_tests}
use Rattle.iloc_spec_grammar.specs.Syntax.{code_t, Text, Fields, Spelled, Transform, fields_pieces, optional_pieces, transform_pieces}
use Rattle.iloc_spec_grammar.specs.Values.{lower_identifier, spelled_fields, transform_spelling}
use Rattle.iloc_spec_grammar.proofs.PartTexts.{transform_spelling_is}
use Rattle.iloc_langid.specs.Reads.{value_of}
use Rattle.iloc_langid.specs.declared.identifier.LanguageIdentifier.{LanguageIdentifier}
use Rattle.iloc_writeable.specs.Pieces.{hyphened, is_there}
use Rattle.iloc_other.proofs.PrintLemmas.{there_by}

part_test : (b : Bool) (n : ℕ) → (b || nat_lt 0 n) ≡ not (not b && (n == 0))
part_test true n = refl
part_test false n = grind (arith, nat_tests)

same_some : (o : Option LanguageIdentifier) → is_some (option_map value_of o) ≡ is_some o
same_some None = refl
same_some (Some i) = refl

module _ (o : Option LanguageIdentifier) (fs : Fields) where
  abbrev written : Transform
  written = record { id = option_map value_of o; fields = fs }

  -- the pieces of the identifier in lower case, and those of the fields
  abbrev lowered : List Text
  lowered = transform_pieces {s = Spelled}
      (record { id = option_map lower_identifier (option_map value_of o); fields = spelled_fields fs })

  -- whether there is neither
  abbrev empty : Bool
  empty = not (is_some o) && (length fs == 0)

  spelling_by : transform_spelling written ≡ cond (not empty) ((code_t ∷ []) ∷ lowered) []
  spelling_by = transform_spelling_is written
      ∙ ap (λ b. cond b ((code_t ∷ []) ∷ lowered) [])
      (ap (λ b. b || nat_lt 0 (length fs)) (same_some o) ∙ part_test (is_some o) (length fs))

  pub transform_there : not empty ≡ is_there (transform_spelling written)
  transform_there = there_by (not empty) (code_t ∷ []) lowered ∙ ap is_there (sym spelling_by)

  pub transform_none : (first : Bool) → empty ≡ true → [] ≡ hyphened first (transform_spelling written)
  transform_none first h = none first
      ∙ ap (hyphened first) (sym (spelling_by ∙ ap (λ b. cond (not b) ((code_t ∷ []) ∷ lowered) []) h))
    where
      none : (first : Bool) → [] ≡ hyphened first []
      none true = refl
      none false = refl

  pub transform_some : (ps : List Text) →
      ps ≡ optional_pieces (option_map lower_identifier (option_map value_of o)) → empty ≡ false →
      (code_t ∷ []) ∷ (ps ++ fields_pieces (spelled_fields fs)) ≡ transform_spelling written
  transform_some ps e h =
      ap (λ l. (code_t ∷ []) ∷ (l ++ fields_pieces (spelled_fields fs))) e
      ∙ sym (spelling_by ∙ ap (λ b. cond (not b) ((code_t ∷ []) ∷ lowered) []) h)
