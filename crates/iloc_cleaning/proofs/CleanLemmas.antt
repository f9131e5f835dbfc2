-- Cleaning changes nothing of a clean line.
use Rattle.std.proofs.Common.{◌≡◌, ℕ, ◌-◌, Bool, true, false, ◌||◌, [], ◌∷◌, length, take, drop, refl, ap, ◌∙◌, arith, append-nil}
use Rattle.std.specs.Bool.{◌==◌}
use Rattle.std.specs.List.{AllByRecursion, position_or_len, before_first}
use Rattle.std.proofs.lemmas.List.{take_all}
use Rattle.iloc_spec_grammar.specs.Syntax.{Text}
use Rattle.iloc_cleaning.specs.Cleaning.{IsClean, clean, clean_name, ends_base, from_first, hyphens, is_at, modifier, with_modifier, without_return, without_blanks, without_first, without_last}

-- of two tests, neither passes
either_false : (a b : Bool) → (a || b) ≡ false → (a ≡ false) × (b ≡ false)
either_false true b e = cc
either_false false b e = (refl, e)

-- no byte passes, so all stand before the first
none_until : (p : ℕ → Bool) (t : Text) → AllByRecursion (λ b. p b ≡ false) t → position_or_len p t ≡ length t
none_until p [] h = refl
none_until p (b ∷ t) h =
    let later : position_or_len p t ≡ length t = none_until p t h.1 in rw h.0 (omega (arith, later))

weaker : (P Q : ℕ → Type 0) → ((b : ℕ) → P b → Q b) → (t : Text) → AllByRecursion P t → AllByRecursion Q t
weaker P Q f [] h = tt
weaker P Q f (b ∷ t) h = (f b h.0, weaker P Q f t h.1)

no_underscore : (t : Text) → AllByRecursion (λ b. (b == 95) ≡ false) t → hyphens t ≡ t
no_underscore [] h = refl
no_underscore (b ∷ t) h = rw h.0 (ap (λ (s : Text). b ∷ s) (no_underscore t h.1))

-- a name without codeset, modifier and underscore
clean_name_same : (t : Text) → AllByRecursion (λ b. (b == 95 || ends_base b) ≡ false) t → clean_name t ≡ t
clean_name_same t h =
    let no_end : AllByRecursion (λ b. ends_base b ≡ false) t =
    weaker (λ b. (b == 95 || ends_base b) ≡ false) (λ b. ends_base b ≡ false)
    (λ b e. (either_false (b == 95) (ends_base b) e).1) t h in
    let no_at : AllByRecursion (λ b. is_at b ≡ false) t =
    weaker (λ b. ends_base b ≡ false) (λ b. is_at b ≡ false)
    (λ b e. (either_false (b == 46) (is_at b) e).1) t no_end in
    let no_score : AllByRecursion (λ b. (b == 95) ≡ false) t =
    weaker (λ b. (b == 95 || ends_base b) ≡ false) (λ b. (b == 95) ≡ false)
    (λ b e. (either_false (b == 95) (ends_base b) e).0) t h in
    let base : before_first ends_base t ≡ t =
    ap (λ (n : ℕ). take n t) (none_until ends_base t no_end) ∙ take_all (length t) t (omega arith) in
    let none : from_first is_at t ≡ [] =
    ap (λ (n : ℕ). drop n t) (none_until is_at t no_at) ∙ drop_whole t in
    ap (λ (b : Text). with_modifier b (from_first is_at t) (modifier (from_first is_at t))) base
    ∙ ap (λ (m : Text). with_modifier t m (modifier m)) none
    ∙ append-nil (hyphens t) ∙ no_underscore t no_score
  where
    drop_whole : (s : Text) → drop (length s) s ≡ []
    drop_whole [] = refl
    drop_whole (b ∷ s) = drop_whole s

pub unchanged : (line : Text) → IsClean line → clean line ≡ line
unchanged line h =
    let whole : without_return line ≡ line = rw h.no_return refl in
    let first : without_first line ≡ line = ap (λ (n : ℕ). drop n line) h.start in
    let last : without_last line ≡ line =
    ap (λ (n : ℕ). take (length line - n) line) h.end ∙ take_all (length line - 0) line (omega arith) in
    ap (λ (t : Text). clean_name (without_blanks t)) whole
    ∙ ap (λ (t : Text). clean_name (without_last t)) first ∙ ap clean_name last
    ∙ clean_name_same line h.bytes
