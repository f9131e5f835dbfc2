-- Words that are taken one at a time, and added without `true`.
use Rattle.std.proofs.Common.{◌≡◌, suc, ◌+◌, ◌≤◌, true, false, not, cond, List, [], ◌∷◌, ◌++◌, length, map, sym, ap, ◌∙◌, arith, append_assoc, append-nil, length-append, Some, option_map}
use Rattle.iloc_spec_grammar.specs.Syntax.{Text, Kind, is_word, IsWord, normal, is_true}
use Rattle.iloc_spec_grammar.specs.Reading.{take_first, skip_first, passing, past}
use Rattle.iloc_subtags.proofs.TakingLemmas.{took}
use Rattle.iloc_word_list.specs.Values.{without_true, with_subtag}

-- a word of values is a subtag
-- the words of the kind at the front, normal
abbrev pub words_read : Kind → List Text → List Text
words_read k ps = map (normal k) (passing (is_word k) ps)

words_read_more : (k : Kind) (p : Text) (ps : List Text) → IsWord k p →
    words_read k (p ∷ ps) ≡ normal k p ∷ words_read k ps
words_read_more k p ps h = ap (λ b. map (normal k) (cond b (p ∷ passing (is_word k) ps) [])) h

-- of the words before, those up to now are in the value
pub record Valued (k : Kind) (before now value : List Text) : Type 0 where
  pub gives : value ++ without_true (words_read k now) ≡ without_true (words_read k before)
  pub skips : past (is_word k) now ≡ past (is_word k) before

one_more : (v : List Text) (w : Text) (ws : List Text) →
    with_subtag v w ++ without_true ws ≡ v ++ without_true (w ∷ ws)
one_more v w ws = elim (is_true w) as (λ b. (v ++ cond (not b) (w ∷ []) []) ++ without_true ws
    ≡ v ++ cond (not b) (w ∷ without_true ws) (without_true ws)) [
      | true ↦ ap (λ l. l ++ without_true ws) (append-nil v)
      | false ↦ append_assoc v (w ∷ []) (without_true ws)
    ]

module _ (k : Kind) (before now value : List Text) (t : Valued k before now value) (w : Text)
    (later : List Text) (e : Some w ≡ option_map (normal k) (take_first (is_word k) now))
    (l : later ≡ skip_first (is_word k) now) where
  now_is : (p : Text) × IsWord k p × (w ≡ normal k p) × (now ≡ p ∷ later)
  now_is = let (p, h, same, cut) = took k now w e in (p, h, same, cut ∙ ap (λ ps. p ∷ ps) (sym l))

  words_now : words_read k now ≡ w ∷ words_read k later
  words_now = let (p, h, same, cut) = now_is in
      ap (words_read k) cut ∙ words_read_more k p later h ∙ ap (λ v. v ∷ words_read k later) (sym same)

  pub valued_more : (more : List Text) → more ≡ with_subtag value w → Valued k before later more
  valued_more more is = let (p, h, same, cut) = now_is in record {
    gives = ap (λ v. v ++ without_true (words_read k later)) is ∙ one_more value w (words_read k later)
        ∙ ap (λ ws. value ++ without_true ws) (sym words_now) ∙ t.gives;
    skips =
        sym (ap (past (is_word k)) cut ∙ ap (λ b. cond b (past (is_word k) later) (p ∷ later)) h) ∙ t.skips;
  }

  -- the value and this word are among all words besides `true`
  pub valued_room : is_true w ≡ false → length value + 1 ≤ length (without_true (words_read k before))
  valued_room other =
      let front : without_true (words_read k now) ≡ w ∷ without_true (words_read k later) =
      ap without_true words_now
      ∙ ap (λ b. cond (not b) (w ∷ without_true (words_read k later)) (without_true (words_read k later)))
      other in
      let n : length (value ++ (w ∷ without_true (words_read k later)))
      ≡ length (without_true (words_read k before)) =
      ap length (ap (λ l. value ++ l) (sym front) ∙ t.gives) in
      let m : length (value ++ (w ∷ without_true (words_read k later)))
      ≡ length value + suc (length (without_true (words_read k later))) =
      length-append value (w ∷ without_true (words_read k later)) in
      omega arith
