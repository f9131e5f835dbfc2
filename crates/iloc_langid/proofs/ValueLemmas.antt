-- The value of a keyword, piece by piece.
use Rattle.std.proofs.Common.{◌≡◌, Bool, true, false, ◌&&◌, nat_le, List, [], ◌∷◌, length, refl, sym, ap, ◌∙◌, arith, Option, Some, None, option_to_list, Ok, Err, true≢false}
use Rattle.std.specs.Prelude.{if◌then◌else◌}
use Rattle.std.specs.Option.{is_some}
use Rattle.iloc_spec_grammar.specs.Syntax.{Text, Attribute, is_word, IsWord, is_true, lower, read}
use Rattle.iloc_spec_grammar.specs.Meaning.{normal_values}
use Rattle.iloc_spec_grammar.specs.Reading.{first_item}
use Rattle.iloc_spec_grammar.specs.Meaning as faults
use Rattle.iloc_subtags.specs.declared.parse_error.ParseError.{ParseError}
use Rattle.iloc_subtags.specs.declared.parse_error.ParseError.TheVariants.{InvalidSubtag, InvalidExtension}
use Rattle.iloc_langid.specs.BlockReads.{answer_of, value_result}

-- a word of values is a subtag
-- the values at the front of the pieces

value_end : (v : Option Text) → value_result (option_to_list v) [] ≡ Ok v
unfolding value_result
value_end None = refl
value_end (Some w) = refl

value_other : (ws : List Text) (p : Text) (ps : List Text) → is_word Attribute p ≡ false →
    value_result ws (p ∷ ps) ≡ Err faults.InvalidSubtag
unfolding value_result
value_other ws p ps h = rw h refl

no_value : (b : Bool) (ws : List Text) → nat_le (length ws) 1 ≡ false →
    (if b && nat_le (length ws) 1 then Ok (first_item ws) else Err faults.InvalidSubtag)
    ≡ Err faults.InvalidSubtag
no_value true ws h = rw h refl
no_value false ws h = refl

module _ (p : Text) (ps : List Text) (h : IsWord Attribute p) where
  value_true : (ws : List Text) → is_true (lower p) ≡ true → value_result ws (p ∷ ps) ≡ value_result ws ps
  unfolding value_result
  value_true ws t = rw (h, t) refl

  value_first : is_true (lower p) ≡ false → value_result [] (p ∷ ps) ≡ value_result (lower p ∷ []) ps
  unfolding value_result
  value_first t = rw (h, t) refl

  value_second : (w : Text) → is_true (lower p) ≡ false →
      value_result (w ∷ []) (p ∷ ps) ≡ Err faults.InvalidSubtag
  unfolding value_result
  value_second w t = grind arith

-- what reading a piece says of it

word_read : (p w : Text) → Ok w ≡ read Attribute InvalidExtension p → IsWord Attribute p × (w ≡ lower p)
word_read p w e = grind arith

word_refused : (p : Text) (e : ParseError) → Err e ≡ read Attribute InvalidExtension p →
    is_word Attribute p ≡ false
word_refused p f e = grind arith

-- with the value so far, the pieces now are what all of them were
module _ (before now later : List Text) (v : Option Text)
    (same : value_result (option_to_list v) now ≡ value_result [] before) where
  pub all_read : now ≡ [] → Ok v ≡ answer_of (value_result [] before)
  all_read e = grind (arith, value_end)

  module _ (p : Text) (step : now ≡ p ∷ later) where
    same_step : value_result (option_to_list v) (p ∷ later) ≡ value_result [] before
    same_step = ap (value_result (option_to_list v)) (sym step) ∙ same

    pub other_read : (e : ParseError) → Err e ≡ read Attribute InvalidExtension p →
        Err InvalidSubtag ≡ answer_of (value_result [] before)
    other_read e h =
        ap answer_of (sym (value_other (option_to_list v) p later (word_refused p e h)) ∙ same_step)

    module _ (w : Text) (h : Ok w ≡ read Attribute InvalidExtension p) where
      spelled : {b : Bool} → b ≡ is_true w → is_true (lower p) ≡ b
      spelled t = ap is_true (sym (word_read p w h).1) ∙ sym t

      pub true_read : true ≡ is_true w → value_result (option_to_list v) later ≡ value_result [] before
      true_read t = sym (value_true p later (word_read p w h).0 (option_to_list v) (spelled t)) ∙ same_step

      pub first_read : false ≡ is_true w → false ≡ is_some v → (x : Text) → x ≡ w →
          value_result (x ∷ []) later ≡ value_result [] before
      first_read t e x is =
          ap (λ y. value_result (y ∷ []) later) (is ∙ (word_read p w h).1)
          ∙ sym (value_first p later (word_read p w h).0 (spelled t))
          ∙ ap (λ o. value_result (option_to_list o) (p ∷ later)) (sym (none v e))
          ∙ same_step
        where
          none : (o : Option Text) → false ≡ is_some o → o ≡ None
          none None e = refl
          none (Some y) e = absurd (true≢false (sym e))

      pub second_read : false ≡ is_true w → true ≡ is_some v →
          Err InvalidSubtag ≡ answer_of (value_result [] before)
      second_read t s = ap answer_of (sym (by v s) ∙ same_step)
        where
          by : (o : Option Text) → true ≡ is_some o →
              value_result (option_to_list o) (p ∷ later) ≡ Err faults.InvalidSubtag
          by None s = absurd (true≢false s)
          by (Some x) s = value_second p later (word_read p w h).0 x (spelled t)

-- for the reader of the value
pub ruleset values = (all_read, true_read, first_read)
