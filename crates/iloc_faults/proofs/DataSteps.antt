-- A data locale is accepted piece by piece exactly if the definitions accept it.
use Rattle.std.proofs.Common.{◌≡◌, inl, inr, ℕ, suc, ◌+◌, ◌≤◌, Bool, true, false, cond, ◌&&◌, nat_le, List, [], ◌∷◌, length, Option, Some, None, MatchOption, is_some, option_and_then, codes, Result, Ok, Err, refl, sym, ap, ◌∙◌, arith}
use Rattle.std.specs.List.{list_all}
use Rattle.std.proofs.lemmas.Bool.{cases_Bool, and_right, eqb-true}
use Rattle.iloc_spec_grammar.specs.Syntax.{Text, Block, Language, Variant, UnicodeKey, Attribute, languages, is_word, lower, is_same, is_true, is_one_byte, front, blocks}
use Rattle.iloc_spec_grammar.specs.Meaning.{Fault, normal_values}
use Rattle.iloc_spec_grammar.specs.Reading.{first_item, identifier_of}
use Rattle.iloc_spec_grammar.proofs.Singletons.{two_more}
use Rattle.iloc_spec_grammar.proofs.MapLaws.{same_is}
use Rattle.iloc_spec_grammar.proofs.WordsLaws.{is_word-lower}
use Rattle.iloc_spec_parts.specs.Small.{SmallIdentifier}
use Rattle.iloc_spec_parts.specs.SmallComputing.{is_u, has_small_keyword, is_small_block, keyword_read, small_identifier_result, blocks_result, after_identifier}
use Rattle.iloc_spec_parts.specs.DataLocales.{named_subdivision}
use Rattle.iloc_spec_parts.specs.DataComputing.{data_of_result}
use Rattle.iloc_normalize.specs.declared.Mode.TheVariants.{Data}
use Rattle.iloc_faults.specs.declared.state.Part.TheVariants.{Head, Subdivision, SubdivisionKey, SubdivisionValue}
use Rattle.iloc_faults.specs.declared.state.Stage.{Stage}
use Rattle.iloc_faults.specs.declared.state.Stage.TheVariants as stages
use Rattle.iloc_faults.specs.Next.{plain, started, after_region_next, after_script_next, word_next, outcome}
use Rattle.iloc_faults.proofs.Words.{tail}
use Rattle.iloc_faults.proofs.Claims.{in_words}
use Rattle.iloc_pieces.proofs.RunWords.{and-true}

-- whether there is no fault
abbrev pub fine : Option Fault → Bool
fine None = true
fine (Some f) = false

-- ---- one variant at most

-- whether the pieces go on with an identifier of one variant at most
abbrev pub few : Stage → List Text → List Text → Bool
few stage vs qs = list_all (is_word Variant) (tail stage qs) && nat_le (length vs + length (tail stage qs)) 1

abbrev few_after : Option (Stage × List Text) → List Text → Bool
few_after None qs = false
few_after (Some w) qs = few w.0 w.1 qs

record Step (stage : Stage) (vs : List Text) (p : Text) (qs : List Text) (o : Option (Stage × List Text)) :
    Type 0 where
  pub few_is : few stage vs (p ∷ qs) ≡ few_after o qs
  pub keeps : MatchOption o (Unit {0}) (λ w. length w.1 ≤ 1)

variant_step : (vs : List Text) (p : Text) (qs : List Text) → length vs ≤ 1 →
    Step stages.Region vs p qs (after_region_next Data vs p)
variant_step vs p qs h = grind arith

region_step : (vs : List Text) (p : Text) (qs : List Text) → length vs ≤ 1 →
    Step stages.Script vs p qs (after_script_next Data vs p)
region_step vs p qs d = let s = variant_step vs p qs d in grind (arith, s.few_is, s.keeps)

word_step : (stage : Stage) (vs : List Text) (p : Text) (qs : List Text) → length vs ≤ 1 →
    Step stage vs p qs (word_next Data stage vs p)
word_step stage vs p qs h = grind arith

few_end : (stage : Stage) (vs : List Text) → length vs ≤ 1 → few stage vs [] ≡ true
few_end stage vs h = grind arith

-- ---- the keyword `sd`

-- whether the values are `true` alone
abbrev trues : List Text → Bool
trues qs = list_all (is_word Attribute) qs && nat_le (length (normal_values qs)) 0

-- whether one value besides `true` names a subdivision
abbrev value : List Text → Bool
value qs = (list_all (is_word Attribute) qs && nat_le (length (normal_values qs)) 1)
    && is_some (option_and_then named_subdivision (first_item (normal_values qs)))

-- whether the pieces are `sd` with such a value
abbrev keyword : List Text → Bool
keyword qs = has_small_keyword qs
    && (is_same (keyword_read qs).0 (codes "sd")
    && is_some (option_and_then named_subdivision (keyword_read qs).1))

more_than_one : (n : ℕ) → nat_le (suc n) 1 ≡ nat_le n 0
more_than_one n = grind arith

value_is : (p : Text) (qs : List Text) →
    value (p ∷ qs)
    ≡ (is_word Attribute p
    && cond (is_true (lower p)) (value qs) (is_some (named_subdivision (lower p)) && trues qs))
value_is p qs = grind (arith, more_than_one)

sd_is_key : (p : Text) → is_same (lower p) (codes "sd") ≡ true → is_word UnicodeKey p ≡ true
unfolding is_word
sd_is_key p e = sym (is_word-lower UnicodeKey p) ∙ ap (is_word UnicodeKey) (same_is (lower p) (codes "sd") e)

keyword_is : (p : Text) (qs : List Text) → keyword (p ∷ qs) ≡ (is_same (lower p) (codes "sd") && value qs)
keyword_is p qs = grind (arith, sd_is_key)

-- ---- blocks

abbrev empty : List Block → Bool
empty [] = true
empty (b ∷ bs) = false

-- whether the blocks are one of `u` with such a keyword, or none
abbrev pub data_tail : List Block → Bool
data_tail [] = true
data_tail (b ∷ bs) = is_small_block b bs
    && (is_same (keyword_read b.1).0 (codes "sd")
    && is_some (option_and_then named_subdivision (keyword_read b.1).1))

single_some : (c : ℕ) (ps : List Text) → empty (blocks ((c ∷ []) ∷ ps)) ≡ false
single_some c ps = grind (arith, cases_Bool)

tail_of_u : (c : ℕ) (ps : List Text) → is_u c ≡ true →
    data_tail (blocks ((c ∷ []) ∷ ps)) ≡ (keyword (front ps) && empty (blocks ps))
tail_of_u c ps h = grind (arith, eqb-true, and-true)

tail_of_other : (c : ℕ) (ps : List Text) → is_u c ≡ false → data_tail (blocks ((c ∷ []) ∷ ps)) ≡ false
tail_of_other c ps h = grind arith

-- ---- what follows is fine

record Claims (ps : List Text) : Type 0 where
  pub last : (seen : List ℕ) →
      fine (outcome Data (plain seen SubdivisionValue) ps) ≡ (trues (front ps) && empty (blocks ps))
  pub value : (seen : List ℕ) →
      fine (outcome Data (plain seen SubdivisionKey) ps) ≡ (value (front ps) && empty (blocks ps))
  pub key : (seen : List ℕ) →
      fine (outcome Data (plain seen Subdivision) ps) ≡ (keyword (front ps) && empty (blocks ps))
  pub head : (stage : Stage) (vs : List Text) (seen : List ℕ) → length vs ≤ 1 →
      fine (outcome Data (in_words Head stage vs seen) ps)
      ≡ (few stage vs (front ps) && data_tail (blocks ps))

at_end : Claims []
at_end = grind (arith, few_end)

at_single : (c : ℕ) {ps : List Text} → Claims ps → Claims ((c ∷ []) ∷ ps)
at_single c {ps = ps} at =
    grind (arith, single_some, and_right, few_end, cases_Bool, tail_of_u, tail_of_other)

module _ (p : Text) (ps : List Text) (long : is_one_byte p ≡ false) (passed : blocks (p ∷ ps) ≡ blocks ps)
    (at : Claims ps) where
  longer : front (p ∷ ps) ≡ p ∷ front ps
  longer = rw long refl

  last : (seen : List ℕ) →
      fine (outcome Data (plain seen SubdivisionValue) (p ∷ ps))
      ≡ (trues (front (p ∷ ps)) && empty (blocks (p ∷ ps)))
  last seen = grind arith

  value_step : (seen : List ℕ) →
      fine (outcome Data (plain seen SubdivisionKey) (p ∷ ps))
      ≡ (value (front (p ∷ ps)) && empty (blocks (p ∷ ps)))
  value_step seen = grind (arith, value_is, last)

  key : (seen : List ℕ) →
      fine (outcome Data (plain seen Subdivision) (p ∷ ps))
      ≡ (keyword (front (p ∷ ps)) && empty (blocks (p ∷ ps)))
  key seen = grind (arith, keyword_is)

  head : (stage : Stage) (vs : List Text) (seen : List ℕ) → length vs ≤ 1 →
      fine (outcome Data (in_words Head stage vs seen) (p ∷ ps))
      ≡ (few stage vs (front (p ∷ ps)) && data_tail (blocks (p ∷ ps)))
  head stage vs seen d = grind (arith, longer, word_step)

  at_long : Claims (p ∷ ps)
  at_long = grind (arith, last, value_step, key, head)

claims : (ps : List Text) → Claims ps
claims [] = at_end
claims ([] ∷ ps) = at_long [] ps refl refl (claims ps)
claims ((c ∷ []) ∷ ps) = at_single c (claims ps)
claims ((c ∷ d ∷ p) ∷ ps) = grind (arith, at_long, two_more, claims ps)

pub data_verdict : (p : Text) (ps : List Text) →
    fine (outcome Data started (p ∷ ps))
    ≡ (is_word (Language languages) p && (few stages.Language [] (front ps) && data_tail (blocks ps)))
data_verdict p ps = by (is_word (Language languages) p) refl
  where
    by : (a : Bool) → is_word (Language languages) p ≡ a →
        fine (outcome Data started (p ∷ ps))
        ≡ (is_word (Language languages) p && (few stages.Language [] (front ps) && data_tail (blocks ps)))
    by false e = elim (cases_Bool (is_one_byte p)) [ inl o ↦ rw (o, e) refl | inr o ↦ rw (o, e) refl ]
    by true e = elim (cases_Bool (is_one_byte p)) [
      | inl o ↦ rw (o, e) ((claims ps).head stages.Language [] [] (omega arith))
      | inr o ↦ rw (o, e) ((claims ps).head stages.Language [] [] (omega arith))
    ]

-- ---- the plain program of the definitions

abbrev pub is_ok : {X : Type 0} → Result X Fault → Bool
is_ok (Ok x) = true
is_ok (Err f) = false

blocks_ok : (r : SmallIdentifier) (bs : List Block) →
    is_ok (data_of_result (blocks_result r bs)) ≡ data_tail bs
unfolding blocks_result
blocks_ok r bs = grind arith

pub data_ok : (p : Text) (ps : List Text) →
    is_ok (data_of_result (after_identifier (small_identifier_result languages (p ∷ front ps)) (blocks ps)))
    ≡ (is_word (Language languages) p && (few stages.Language [] (front ps) && data_tail (blocks ps)))
unfolding small_identifier_result after_identifier identifier_of
data_ok p ps = grind (arith, blocks_ok)
