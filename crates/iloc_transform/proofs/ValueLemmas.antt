-- Subtags of a value that are taken one at a time.
use Rattle.std.proofs.Common.{◌≡◌, suc, ◌+◌, ◌<◌, ◌≤◌, Bool, true, false, not, cond, List, [], ◌∷◌, ◌++◌, length, refl, sym, ap, ◌∙◌, subst, arith, length-append, option_map, Some, None, Ok, Err}
use Rattle.std.specs.List.{list_all}
use Rattle.std.proofs.lemmas.Bool.{and_parts, false_from_ne_true}
use Rattle.iloc_spec_grammar.specs.Syntax.{Text, pieces, Attribute, is_word, is_true, lower}
use Rattle.iloc_spec_grammar.specs.Meaning.{normal_values}
use Rattle.iloc_spec_grammar.specs.Reading.{passing, past, take_first, skip_first, first_item}
use Rattle.iloc_spec_grammar.proofs.PiecesLaws.{pieces_nonempty}
use Rattle.iloc_subtags.specs.declared.parse_error.ParseError.{ParseError}
use Rattle.iloc_subtags.specs.declared.parse_error.ParseError.TheVariants.{InvalidLanguage, InvalidSubtag, InvalidExtension, DuplicatedExtension, OutOfMemory}
use Rattle.iloc_subtags.specs.Judging.{Answers, RunsOutOnlyIf}
use Rattle.iloc_subtags.proofs.TakingLemmas.{took}
use Rattle.iloc_subtags.proofs.Judged.{without_memory, runs_out}
use Rattle.iloc_spec_parts.specs.PartValues.{transform_value}
use Rattle.iloc_spec_parts.specs.Fronts.{attributes_front}
use Rattle.iloc_transform.specs.ValueReading.{FieldValueReads, FieldValueTextReads, FieldValueTextWants}

-- of the pieces before, those up to now are taken, and gave the value
pub record TakingValues (before now v : List Text) : Type 0 where
  pub front : v ++ normal_values (attributes_front now) ≡ normal_values (attributes_front before)
  pub rest : past (is_word Attribute) now ≡ past (is_word Attribute) before

-- the subtags so far and one more are among all
pub one_more_fits : (before now v : List Text) (w : Text) → TakingValues before now v →
    Some w ≡ option_map lower (take_first (is_word Attribute) now) → is_true w ≡ false →
    length v + 1 ≤ length (normal_values (attributes_front before))
one_more_fits before now v w h e other =
    let t = took Attribute now w e in
    let later : List Text = attributes_front (skip_first (is_word Attribute) now) in
    let first : attributes_front now ≡ t.0 ∷ later =
    ap attributes_front t.3 ∙ ap (λ b. cond b (t.0 ∷ later) []) t.1 in
    let is : is_true (lower t.0) ≡ false = ap is_true (sym t.2) ∙ other in
    let values : normal_values (attributes_front now) ≡ lower t.0 ∷ normal_values later =
    ap normal_values first
    ∙ ap (λ b. cond (not b) (lower t.0 ∷ normal_values later) (normal_values later)) is in
    let all : length (v ++ (lower t.0 ∷ normal_values later))
    ≡ length (normal_values (attributes_front before)) =
    ap length (ap (λ l. v ++ l) (sym values) ∙ h.front) in
    let parts : length (v ++ (lower t.0 ∷ normal_values later))
    ≡ length v + suc (length (normal_values later)) =
    length-append v (lower t.0 ∷ normal_values later) in
    omega arith

-- a whole text

all_pass : (test : Text → Bool) (ps : List Text) → past test ps ≡ [] →
    (list_all test ps ≡ true) × (passing test ps ≡ ps)
all_pass test [] e = (refl, refl)
all_pass test (p ∷ ps) e = by (test p) refl e (all_pass test ps)
  where
    by : (b : Bool) → test p ≡ b → cond b (past test ps) (p ∷ ps) ≡ [] →
        (past test ps ≡ [] → (list_all test ps ≡ true) × (passing test ps ≡ ps)) →
        (list_all test (p ∷ ps) ≡ true) × (passing test (p ∷ ps) ≡ p ∷ ps)
    by true h e more = let m = more e in (rw (h, m.0) refl, rw (h, m.1) refl)
    by false h e more = cc

some_fails : (test : Text → Bool) (ps : List Text) → list_all test ps ≡ true →
    (past test ps ≡ []) × (passing test ps ≡ ps)
some_fails test [] h = (refl, refl)
some_fails test (p ∷ ps) h =
    let parts = and_parts (test p) (list_all test ps) h in
    let more = some_fails test ps parts.1 in
    (rw parts.0 more.0, rw parts.0 (ap (λ l. p ∷ l) more.1))

pub whole_gives : (t v rest : List Text) → rest ≡ past (is_word Attribute) t →
    v ≡ normal_values (attributes_front t) → None ≡ first_item rest →
    (list_all (is_word Attribute) t ≡ true) × (v ≡ normal_values t)
whole_gives t v [] e i n = let h = all_pass (is_word Attribute) t (sym e) in (h.0, i ∙ ap normal_values h.1)
whole_gives t v (p ∷ rest) e i n = cc

pub whole_more : (t rest : List Text) (p : Text) → rest ≡ past (is_word Attribute) t →
    Some p ≡ first_item rest → list_all (is_word Attribute) t ≡ false
whole_more t [] p e n = cc
whole_more t (q ∷ rest) p e n =
    false_from_ne_true _ (λ h. let z : q ∷ rest ≡ [] = e ∙ (some_fails (is_word Attribute) t h).0 in cc)

pub whole_none : (t : List Text) → (t ≡ [] → ⊥) → attributes_front t ≡ [] →
    list_all (is_word Attribute) t ≡ false
whole_none t n e = false_from_ne_true _ (λ h. n (sym (some_fails (is_word Attribute) t h).1 ∙ e))

-- at the pieces of a text
module _ (t : Text) (ps : List Text) (is : ps ≡ pieces t) (rest : List Text) where
  pub value_gives : (v : List Text) → FieldValueReads ps rest (Ok v) → None ≡ first_item rest →
      FieldValueTextReads t (Ok v)
  value_gives v r n =
      let there = subst (λ (l : List Text). FieldValueReads l rest (Ok v)) is r in
      let h = whole_gives (pieces t) v rest there.2 there.1 n in
      rw h.0 (ap (λ l. Ok l) (sym h.1))

  pub value_more_left : (v : List Text) (p : Text) → FieldValueReads ps rest (Ok v) →
      Some p ≡ first_item rest → FieldValueTextReads t (Err InvalidExtension)
  value_more_left v p r n = rw (whole_more (pieces t) rest p (r.2 ∙ ap (past (is_word Attribute)) is) n) refl

  value_refused : (f : ParseError) → FieldValueReads ps rest (Err f) →
      Answers (λ v. transform_value t ≡ Ok v) (λ f. transform_value t ≡ Err f) (FieldValueTextWants t) (Err f)
  value_refused InvalidExtension r =
      rw (whole_none (pieces t) (pieces_nonempty t) (ap attributes_front (sym is) ∙ r.1)) refl
  value_refused OutOfMemory r =
      subst (λ (l : List Text). 4 < length (normal_values (attributes_front l))) is r
  value_refused InvalidLanguage r = let other = r.0 in cc
  value_refused InvalidSubtag r = let other = r.0 in cc
  value_refused DuplicatedExtension r = let other = r.0 in cc

  pub value_refuses : (f : ParseError) → FieldValueReads ps rest (Err f) → FieldValueTextReads t (Err f)
  value_refuses f r = without_memory (λ v. transform_value t ≡ Ok v) (λ f. transform_value t ≡ Err f)
      (FieldValueTextWants t) (Err f) (value_refused f r)

  pub value_memory : (f : ParseError) → FieldValueReads ps rest (Err f) →
      RunsOutOnlyIf {X = List Text} (FieldValueTextWants t) (Err f)
  value_memory f r = runs_out (λ v. transform_value t ≡ Ok v) (λ f. transform_value t ≡ Err f)
      (FieldValueTextWants t) (Err f) (value_refused f r)
