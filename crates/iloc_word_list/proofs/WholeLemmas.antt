-- Pieces that are all words, or not.
use Rattle.std.proofs.Common.{◌≡◌, Bool, true, false, cond, ◌&&◌, ◌==◌, List, [], ◌∷◌, length, refl, sym, ap, ◌∙◌, true≢false, Some, None, Ok, Err}
use Rattle.std.specs.List.{list_all}
use Rattle.iloc_spec_grammar.specs.Syntax.{Text, pieces, Subtag, is_word}
use Rattle.iloc_spec_grammar.specs.Meaning.{normal_values}
use Rattle.iloc_spec_grammar.specs.Reading.{passing, past, first_item}
use Rattle.iloc_spec_grammar.specs.Meaning as faults
use Rattle.iloc_spec_parts.specs.PartValues.{unicode_value}

all_past : (test : Text → Bool) (ps : List Text) → first_item (past test ps) ≡ None →
    (list_all test ps ≡ true) × (passing test ps ≡ ps)
all_past test [] e = (refl, refl)
all_past test (p ∷ ps) e = (elim (test p) as (λ b. first_item (cond b (past test ps) (p ∷ ps)) ≡ None →
    ((b && list_all test ps) ≡ true) × (cond b (p ∷ passing test ps) [] ≡ p ∷ ps)) [
      | true ↦ λ e. let rest = all_past test ps e in (rest.0, ap (λ l. p ∷ l) rest.1)
      | false ↦ λ e. cc
    ]) e

not_all : (test : Text → Bool) (ps : List Text) (q : Text) → first_item (past test ps) ≡ Some q →
    list_all test ps ≡ false
not_all test [] q e = cc
not_all test (p ∷ ps) q e = (elim (test p)
    as (λ b. first_item (cond b (past test ps) (p ∷ ps)) ≡ Some q → (b && list_all test ps) ≡ false) [
      | true ↦ λ e. not_all test ps q e
      | false ↦ λ e. refl
    ]) e

value_of : (t : Text) → (length t == 0) ≡ false →
    unicode_value t
    ≡ cond (list_all (is_word Subtag) (pieces t)) (Ok (normal_values (pieces t))) (Err faults.InvalidSubtag)
value_of [] h = absurd (true≢false h)
value_of (c ∷ t) h = refl

-- no piece is left: all are words
pub whole_read : (t : Text) (rest v : List Text) → (length t == 0) ≡ false → None ≡ first_item rest →
    rest ≡ past (is_word Subtag) (pieces t) → v ≡ normal_values (passing (is_word Subtag) (pieces t)) →
    unicode_value t ≡ Ok v
whole_read t rest v h e r is =
    let all = all_past (is_word Subtag) (pieces t) (ap first_item (sym r) ∙ sym e) in
    value_of t h ∙ ap (λ b. cond b (Ok (normal_values (pieces t))) (Err faults.InvalidSubtag)) all.0
    ∙ ap Ok (ap normal_values (sym all.1) ∙ sym is)

-- a piece is left, which is no word
pub whole_left : (t : Text) (rest : List Text) (p : Text) → (length t == 0) ≡ false →
    Some p ≡ first_item rest → rest ≡ past (is_word Subtag) (pieces t) →
    unicode_value t ≡ Err faults.InvalidSubtag
whole_left t rest p h e r = value_of t h
    ∙ ap (λ b. cond b (Ok (normal_values (pieces t))) (Err faults.InvalidSubtag))
    (not_all (is_word Subtag) (pieces t) p (ap first_item (sym r) ∙ sym e))
