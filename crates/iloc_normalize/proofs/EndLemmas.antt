-- Texts are the same if their ends are, which together are all of them.
use Rattle.std.proofs.Common.{◌≡◌, ℕ, ◌+◌, ◌≤◌, ◌++◌, length, take, drop, sym, ap, ◌∙◌, arith, length-drop, ◌-◌, IsTrue}
use Rattle.std.specs.Prelude.{nat_eq}
use Rattle.std.proofs.lemmas.Bool.Decides.{nat_tests}
use Rattle.std.proofs.lemmas.List.{take-append-drop, take-take, take_all}
use Rattle.std.proofs.lemmas.Simd.{length-chunk, length-put_chunk, take_more_put_chunk}
use lib.Lanes.{chunk, put_chunk}
use Rattle.iloc_spec_grammar.specs.Syntax.{Text}
use Rattle.iloc_tinystr.specs.Number.{number, bytes}
use Rattle.iloc_tinystr.proofs.ByBytes.{bytes-number}
use Rattle.iloc_tinystr.proofs.RawForms.{Bytes}

-- the last sixteen bytes, as they are loaded
abbrev pub last_sixteen : ℕ → Text → Text
last_sixteen last t = take 16 (take 16 (drop last t))

last_is : (last : ℕ) (t : Text) → length t ≡ last + 16 → last_sixteen last t ≡ drop last t
last_is last t long =
    let rest = drop last t in
    take-take 16 16 rest (omega arith) ∙ take_all 16 rest (omega (arith, length-drop last t, long))

first_is : (last : ℕ) (t u : Text) → last ≤ 16 → take 16 (take 16 t) ≡ take 16 (take 16 u) →
    take last t ≡ take last u
first_is last t u few same =
    let both : take 16 t ≡ take 16 u =
    sym (take-take 16 16 t (omega arith)) ∙ same ∙ take-take 16 16 u (omega arith) in
    sym (take-take last 16 t few) ∙ ap (take last) both ∙ take-take last 16 u few

pub same_ends : (last : ℕ) (t u : Text) → last ≤ 16 → length t ≡ last + 16 → length u ≡ last + 16
    → take 16 (take 16 t) ≡ take 16 (take 16 u) → last_sixteen last t ≡ last_sixteen last u → t ≡ u
same_ends last t u few long other front back =
    let first = first_is last t u few front in
    let rest : drop last t ≡ drop last u = sym (last_is last t long) ∙ back ∙ last_is last u other in
    sym (take-append-drop last t) ∙ (λ j. first j ++ rest j) ∙ take-append-drop last u

-- a text whose ends are stored over another of its length
pub ends_stored : (last : ℕ) (from to : Text) → last ≤ 16 → length from ≡ last + 16 → length to ≡ length from
    → put_chunk last (put_chunk 0 to (chunk 0 16 from)) (chunk last 16 from) ≡ from
ends_stored last from to few long same =
    let front : Text = chunk 0 16 from in
    let back : Text = chunk last 16 from in
    let first : Text = put_chunk 0 to front in
    let front_wide : length front ≡ 16 = length-chunk 0 16 from (omega (arith, long)) in
    let back_wide : length back ≡ 16 = length-chunk last 16 from (omega (arith, long)) in
    let begun : take 16 first ≡ front =
    take_more_put_chunk 0 to front 16 (omega (arith, front_wide)) (omega (arith, front_wide, long, same)) in
    let before : take last first ≡ take last from =
    sym (take-take last 16 first few) ∙ ap (take last) begun ∙ take-take last 16 from few in
    let room : length first ≡ last + 16 = length-put_chunk 0 to front ∙ same ∙ long in
    let all : take (last + 16) (put_chunk last first back) ≡ take last first ++ back =
    grind (arith, take_more_put_chunk) in
    let whole : length (put_chunk last first back) ≤ last + 16 =
    omega (arith, length-put_chunk last first back, room) in
    let rest : back ≡ drop last from =
    take_all 16 (drop last from) (omega (arith, length-drop last from, long)) in
    grind (arith, take_all, take-append-drop)

-- pieces of one number and of one length
pub same_number : (t u : Text) → Bytes t → Bytes u → length u ≡ length t → number t ≡ number u → t ≡ u
same_number t u fits others long same =
    let wide : length t ≡ length u = sym long in
    sym (bytes-number t fits) ∙ (λ j. bytes (wide j) (same j)) ∙ bytes-number u others

pub is_equal : (a b : ℕ) → IsTrue (nat_eq a b) → a ≡ b
is_equal a b e = grind (arith, nat_tests)

pub are_equal : (a b : ℕ) → a ≡ b → IsTrue (nat_eq a b)
are_equal a b e = grind (arith, nat_tests)

-- what stands behind the first bytes, as a slice
abbrev pub behind : ℕ → Text → Text
behind last t = take (length t - last) (drop last t)

behind_is : (last : ℕ) (t : Text) → behind last t ≡ drop last t
behind_is last t = take_all (length t - last) (drop last t) (omega (arith, length-drop last t))

-- texts of at most sixteen bytes, of which the ends are the same
pub same_eights : (last : ℕ) (t u : Text) → last ≤ 8 → take 8 t ≡ take 8 u → behind last t ≡ behind last u →
    t ≡ u
same_eights last t u few front back =
    let first : take last t ≡ take last u =
    sym (take-take last 8 t few) ∙ ap (take last) front ∙ take-take last 8 u few in
    let rest : drop last t ≡ drop last u = sym (behind_is last t) ∙ back ∙ behind_is last u in
    sym (take-append-drop last t) ∙ (λ j. first j ++ rest j) ∙ take-append-drop last u
