-- The words of an identifier, one piece more.
use Rattle.std.proofs.Common.{◌≡◌, inl, inr, Bool, true, false, not, ◌&&◌, List, [], ◌∷◌, ◌++◌, map, Option, Some, None, MatchOption, arith, append_assoc, append-nil}
use Rattle.std.specs.List.{list_any, list_all}
use Rattle.std.specs.Ordering.{eq_by_cmp}
use Rattle.std.proofs.lemmas.Bool.{cases_Bool, false_from_ne_true, eqb-true}
use Rattle.iloc_spec_grammar.specs.Syntax.{Text, Variant, is_word, lower, word_cmp, is_one_byte}
use Rattle.iloc_spec_grammar.specs.Syntax as kinds
use Rattle.iloc_spec_grammar.specs.Reading.{skip_first, passing}
use Rattle.iloc_spec_grammar.specs.Computing.{all_different}
use Rattle.iloc_spec_grammar.proofs.WordsLaws.{length-script, length-region, length-variant}
use Rattle.iloc_normalize.specs.declared.Mode.{Mode}
use Rattle.iloc_faults.specs.declared.state.Stage.{Stage}
use Rattle.iloc_faults.specs.declared.state.Stage.TheVariants.{Language, Script, Region}
use Rattle.iloc_faults.specs.Next.{is_new, after_region_next, after_script_next, word_next}
use Rattle.iloc_faults.proofs.Variants.{repeat_found, one_more}

-- the variants among the pieces after the words up to that stage
abbrev pub tail : Stage → List Text → List Text
tail Language qs = skip_first (is_word kinds.Region) (skip_first (is_word kinds.Script) qs)
tail Script qs = skip_first (is_word kinds.Region) qs
tail Region qs = qs

-- whether the pieces are variants, and differ among themselves and from those before
abbrev pub are_variants : List Text → List Text → Bool
are_variants vs qs = list_all (is_word Variant) qs && all_different word_cmp (vs ++ map lower qs)

-- whether the pieces go on with an identifier
abbrev pub good : Stage → List Text → List Text → Bool
good stage vs qs = are_variants vs (tail stage qs)

-- whether the variants at the front repeat one
abbrev pub repeats_in : List Text → List Text → Bool
repeats_in vs qs = not (all_different word_cmp (vs ++ map lower (passing (is_word Variant) qs)))

abbrev pub repeats : Stage → List Text → List Text → Bool
repeats stage vs qs = repeats_in vs (tail stage qs)

-- the same after a piece more, if that may come next
abbrev pub good_after : Option (Stage × List Text) → List Text → Bool
good_after None qs = false
good_after (Some w) qs = good w.0 w.1 qs

abbrev pub repeats_after : Text → Option (Stage × List Text) → List Text → Bool
repeats_after p None qs = is_word Variant p
repeats_after p (Some w) qs = repeats w.0 w.1 qs

-- nothing is left
pub good_end : (stage : Stage) (vs : List Text) → all_different word_cmp vs ≡ true → good stage vs [] ≡ true
good_end stage vs h = grind (arith, append-nil)

-- a piece of one byte is no word of an identifier
pub no_word : (p : Text) → is_one_byte p ≡ true →
    (is_word kinds.Script p ≡ false) × (is_word kinds.Region p ≡ false) × (is_word Variant p ≡ false)
no_word p h = grind (arith, eqb-true, false_from_ne_true, length-script, length-region, length-variant)

pub no_next : (mode : Mode) (stage : Stage) (vs : List Text) (p : Text) → is_word kinds.Script p ≡ false →
    is_word kinds.Region p ≡ false → is_word Variant p ≡ false → word_next mode stage vs p ≡ None
no_next mode stage vs p h k e = grind arith

pub single_next : (mode : Mode) (stage : Stage) (vs : List Text) (p : Text) → is_one_byte p ≡ true →
    word_next mode stage vs p ≡ None
single_next mode stage vs p h = grind (arith, no_word, no_next)

-- where each variant may come that is none of those before
module _ (mode : Mode)
    (many : (vs : List Text) (v : Text) → is_new mode vs v ≡ not (list_any (eq_by_cmp word_cmp v) vs)) where
  -- those before differ
  abbrev pub Differ : List Text → Type 0
  Differ vs = all_different word_cmp vs ≡ true

  -- what is so of each of the three ways
  pub record Step (stage : Stage) (vs : List Text) (p : Text) (qs : List Text)
      (o : Option (Stage × List Text)) : Type 0 where
    pub good_is : good stage vs (p ∷ qs) ≡ good_after o qs
    pub repeats_is : repeats stage vs (p ∷ qs) ≡ repeats_after p o qs
    pub keeps : MatchOption o (Unit {0}) (λ w. Differ w.1)

  variant_step : (vs : List Text) (p : Text) (qs : List Text) → Differ vs →
      Step Region vs p qs (after_region_next mode vs p)
  variant_step vs p qs d = grind (arith, append-nil, repeat_found, append_assoc, one_more)

  region_step : (vs : List Text) (p : Text) (qs : List Text) → Differ vs →
      Step Script vs p qs (after_script_next mode vs p)
  region_step vs p qs d = elim (cases_Bool (is_word kinds.Region p)) [
    | inl e ↦ rw e (record { good_is = rw e; repeats_is = rw e; keeps = d })
    | inr e ↦ rw e (let s = variant_step vs p qs d in
        record { good_is = rw e s.good_is; repeats_is = rw e s.repeats_is; keeps = s.keeps })
  ]

  pub word_step : (stage : Stage) (vs : List Text) (p : Text) (qs : List Text) → Differ vs →
      Step stage vs p qs (word_next mode stage vs p)
  word_step Language vs p qs d = elim (cases_Bool (is_word kinds.Script p)) [
    | inl e ↦ rw e (record { good_is = rw e; repeats_is = rw e; keeps = d })
    | inr e ↦ rw e (let s = region_step vs p qs d in
        record { good_is = rw e s.good_is; repeats_is = rw e s.repeats_is; keeps = s.keeps })
  ]
  word_step Script vs p qs d = region_step vs p qs d
  word_step Region vs p qs d = variant_step vs p qs d
