-- Pieces of other extensions that are taken one at a time.
use Rattle.std.proofs.Common.{◌≡◌, ℕ, ◌+◌, ◌<◌, Bool, true, false, cond, List, [], ◌∷◌, ◌++◌, length, map, filter, refl, sym, ap, ◌∙◌, arith, append_assoc, append-nil, Option, Some, None, if◌then◌else◌, ◌==◌}
use Rattle.std.specs.List.{AllByRecursion}
use Rattle.std.specs.Char.{is_ascii_alphanumeric}
use Rattle.std.specs.Str.{IsUtf8}
use Rattle.std.proofs.lemmas.Bool.Decides.{nat_tests}
use Rattle.std.proofs.lemmas.List.{map-append}
use Rattle.std.proofs.lemmas.List.Elements.{All-cons, All-nil}
use Rattle.std.proofs.lemmas.Str.{IsUtf8-from_ascii}
use Rattle.std.proofs.lemmas.Str.Ascii.{IsAscii-from_all}
use Rattle.iloc_spec_grammar.specs.Syntax.{Text, Subtag, is_word, lower, kept}
use Rattle.iloc_spec_grammar.specs.Meaning as faults
use Rattle.iloc_spec_grammar.specs.Reading.{take_first, skip_first, passing, past}
use Rattle.iloc_spec_parts.specs.Fronts.{has_other_length, other_front, OtherFault, no_word}

-- a piece of the front was taken, or none
pub took : (test : Text → Bool) (ps : List Text) (p : Text) → Some p ≡ take_first test ps →
    (test p ≡ true) × (ps ≡ p ∷ skip_first test ps)
took test [] p e = cc
took test (q ∷ ps) p e = by (test q) refl e
  where
    by : (b : Bool) → test q ≡ b → Some p ≡ cond b (Some q) None →
        (test p ≡ true) × (q ∷ ps ≡ p ∷ skip_first test (q ∷ ps))
    by true h e = let same : p ≡ q = cc in (ap test same ∙ h, rw h (λ i. sym same i ∷ ps))
    by false h e = cc

pub took_none : (test : Text → Bool) (ps : List Text) → None ≡ take_first test ps →
    (passing test ps ≡ []) × (past test ps ≡ ps) × (skip_first test ps ≡ ps)
took_none test [] e = (refl, refl, refl)
took_none test (q ∷ ps) e = by (test q) refl e
  where
    by : (b : Bool) → test q ≡ b → ◌≡◌ {A = Option Text} None (cond b (Some q) None) →
        (passing test (q ∷ ps) ≡ []) × (past test (q ∷ ps) ≡ q ∷ ps) × (skip_first test (q ∷ ps) ≡ q ∷ ps)
    by true h e = cc
    by false h e = (rw h refl, rw h refl, rw h refl)

-- of the pieces before, those up to now are taken, with these words
pub record TakingPieces (before now ws : List Text) : Type 0 where
  pub taken : List Text
  pub front : other_front before ≡ taken ++ other_front now
  pub rest : past has_other_length before ≡ past has_other_length now
  pub lengths : AllByRecursion (λ p. has_other_length p ≡ true) taken
  pub means : ws ≡ kept taken

pub all_last : {X : Type 0} (P : X → Type 0) (xs : List X) (x : X) → AllByRecursion P xs → P x →
    AllByRecursion P (xs ++ x ∷ [])
all_last P [] x h p = (p, tt)
all_last P (y ∷ xs) x h p = (h.0, all_last P xs x h.1 p)

filter-append : (test : Text → Bool) (xs ys : List Text) →
    filter test (xs ++ ys) ≡ filter test xs ++ filter test ys
filter-append test [] ys = refl
filter-append test (x ∷ xs) ys = elim (test x)
    as (λ b. cond b (x ∷ filter test (xs ++ ys)) (filter test (xs ++ ys))
    ≡ cond b (x ∷ filter test xs) (filter test xs) ++ filter test ys)
    [ true ↦ ap (λ l. x ∷ l) (filter-append test xs ys) | false ↦ filter-append test xs ys ]

kept-append : (xs ys : List Text) → kept (xs ++ ys) ≡ kept xs ++ kept ys
kept-append xs ys = ap (map lower) (filter-append (is_word Subtag) xs ys)
    ∙ map-append lower (filter (is_word Subtag) xs) (filter (is_word Subtag) ys)

kept-last : (xs : List Text) (p : Text) →
    kept (xs ++ p ∷ []) ≡ (if is_word Subtag p then kept xs ++ lower p ∷ [] else kept xs)
kept-last xs p = kept-append xs (p ∷ [])
    ∙ elim (is_word Subtag p)
    as (λ b. kept xs ++ map lower (cond b (p ∷ []) []) ≡ cond b (kept xs ++ lower p ∷ []) (kept xs))
    [ true ↦ refl | false ↦ append-nil (kept xs) ]

pub front_first : (p : Text) (ps : List Text) → has_other_length p ≡ true →
    (other_front (p ∷ ps) ≡ p ∷ other_front ps) × (past has_other_length (p ∷ ps) ≡ past has_other_length ps)
front_first p ps h = (rw h refl, rw h refl)

pub takes_piece : (before now ws : List Text) (p : Text) (more vs : List Text) →
    TakingPieces before now ws → Some p ≡ take_first has_other_length now →
    more ≡ skip_first has_other_length now → vs ≡ (if is_word Subtag p then ws ++ lower p ∷ [] else ws) →
    TakingPieces before more vs
takes_piece before now ws p more vs h e s v =
    let t = took has_other_length now p e in
    let first : now ≡ p ∷ more = t.1 ∙ ap (λ l. p ∷ l) (sym s) in
    let f = front_first p more t.0 in
    record {
      taken = h.taken ++ p ∷ [];
      front = h.front ∙ ap (λ l. h.taken ++ other_front l) first ∙ ap (λ l. h.taken ++ l) f.0
          ∙ sym (append_assoc h.taken (p ∷ []) (other_front more));
      rest = h.rest ∙ ap (past has_other_length) first ∙ f.1;
      lengths = all_last (λ q. has_other_length q ≡ true) h.taken p h.lengths t.0;
      means =
          v ∙ ap (λ l. if is_word Subtag p then l ++ lower p ∷ [] else l) h.means ∙ sym (kept-last h.taken p);
    }

-- at the end of the front
whole : (before now ws : List Text) → (h : TakingPieces before now ws) →
    None ≡ take_first has_other_length now →
    (other_front before ≡ h.taken) × (past has_other_length before ≡ now)
whole before now ws h e = let t = took_none has_other_length now e in
    (h.front ∙ ap (λ l. h.taken ++ l) t.0 ∙ append-nil h.taken, h.rest ∙ t.1)

pub takes_none : (before now ws : List Text) → TakingPieces before now ws →
    None ≡ take_first has_other_length now → length ws ≡ 0 → OtherFault before faults.InvalidExtension
takes_none before now ws h e n = no_word (λ i.
    let w = whole before now ws h e in
    let z : length (kept (other_front before)) ≡ 0 =
    ap (λ l. length (kept l)) w.0 ∙ sym (ap length h.means) ∙ n in
    let p = i.nonempty in
    absurd (omega (arith, z, p)))

-- a letter or digit alone is text
pub letter_is_utf8 : (c : ℕ) → is_ascii_alphanumeric c ≡ true → IsUtf8 (c ∷ [])
letter_is_utf8 c h = IsUtf8-from_ascii (c ∷ [])
    (IsAscii-from_all (c ∷ []) (All-cons (λ b. b < 128) c [] (below c h) (All-nil (λ (b : ℕ). b < 128))))
  where
    below : (c : ℕ) → is_ascii_alphanumeric c ≡ true → c < 128
    below c h = grind (arith, nat_tests)

pub no_item : (n : ℕ) → (n == 0) ≡ true → n ≡ 0
no_item n h = grind (arith, nat_tests)
