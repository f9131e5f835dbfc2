-- Cleaning makes no line longer.
use Rattle.std.proofs.Common.{◌≡◌, ℕ, ◌+◌, ◌-◌, ◌<◌, ◌≤◌, Bool, true, false, zero, suc, [], ◌∷◌, ◌++◌, length, take, drop, refl, ap, sym, ◌∙◌, arith, codes, if◌then◌else◌, length-append}
use Rattle.std.specs.Bool.{◌==◌}
use Rattle.std.specs.List.{before_first, position_or_len, ends_with, prefix_len, suffix_len}
use Rattle.std.specs.Str.{bytes_eq}
use Rattle.std.specs.Prelude.{nat_eq, ⊤}
use Rattle.std.proofs.lemmas.List.{length-drop, length-map, length-take-le, take-append-drop}
use Rattle.std.proofs.lemmas.Slice.Eq.{bytes_eq-Decides}
use Rattle.iloc_spec_grammar.specs.Syntax.{Text}
use Rattle.iloc_cleaning.specs.Cleaning.{clean, clean_name, ends_base, from_first, hyphens, is_at, is_blank, is_separator, modifier, with_modifier, without_blanks, without_first, without_return}
use Rattle.iloc_cleaning.specs.declared.modifier.Modifier.{Modifier}
use Rattle.iloc_cleaning.specs.declared.modifier.Modifier.TheVariants.{Currency, Script, Variant, Other}
use Rattle.iloc_cleaning.proofs.Finding.{position_or_len-le-length}

-- what a modifier becomes is not longer than it is

abbrev HasRoom : Text → Modifier → Type 0
HasRoom m (Script s) = length s ≤ length m
HasRoom m Variant = 0 < length m
HasRoom m Currency = ⊤
HasRoom m Other = ⊤

by_text : (m w : Text) (j k : Modifier) → (length m ≡ length w → HasRoom m j) → HasRoom m k
    → HasRoom m (if bytes_eq m w then j else k)
by_text m w j k here later = by (bytes_eq m w) (λ e. here (ap length ((bytes_eq-Decides m w).0 e)))
  where
    by : (t : Bool) → (t ≡ true → HasRoom m j) → HasRoom m (if t then j else k)
    by true h = h refl
    by false h = later

has_room : (m : Text) → HasRoom m (modifier m)
has_room m =
    by_text m (codes "@euro") Currency _ (λ e. tt)
    (by_text m (codes "@latin") (Script (codes "-Latn")) _ (script 6 (omega arith))
    (by_text m (codes "@cyrillic") (Script (codes "-Cyrl")) _ (script 9 (omega arith))
    (by_text m (codes "@devanagari") (Script (codes "-Deva")) _ (script 11 (omega arith))
    (by_text m (codes "@valencia") Variant _ (variant 8)
    (by_text m (codes "@saaho") Variant Other (variant 5) tt)))))
  where
    script : (n : ℕ) → 5 ≤ n → length m ≡ n → 5 ≤ length m
    script n h e = omega (arith, h, e)

    variant : (n : ℕ) → length m ≡ suc n → 0 < length m
    variant n e = omega (arith, e)

length-hyphens : (t : Text) → length (hyphens t) ≡ length t
length-hyphens t = length-map t (λ b. if b == 95 then 45 else b)

fits : (base m : Text) (k : Modifier) → HasRoom m k
    → length (with_modifier base m k) ≤ length base + length m
fits base m Currency h = omega (arith, length-hyphens base)
fits base m Other h = omega (arith, length-hyphens base, length-append (hyphens base) m)
fits base m Variant h =
    let rest : length (drop 1 m) ≡ length m - 1 = length-drop 1 m in
    omega (arith, h, rest, length-hyphens base, length-append (hyphens base) (45 ∷ drop 1 m))
fits base m (Script s) h =
    let n = position_or_len is_separator base in
    let whole : length (take n base) + length (drop n base) ≡ length base =
    sym (length-append (take n base) (drop n base)) ∙ ap length (take-append-drop n base) in
    omega (
      arith,
      h,
      whole,
      length-hyphens (take n base),
      length-hyphens (drop n base),
      length-append s (hyphens (drop n base)),
      length-append (hyphens (take n base)) (s ++ hyphens (drop n base)),
    )

-- language and territory end where the modifier begins, or before
ends_before : (t : Text) → position_or_len ends_base t ≤ position_or_len is_at t
ends_before [] = omega arith
ends_before (b ∷ t) = at (b == 46) (is_at b) refl refl (ends_before t)
  where
    at : (dot sign : Bool) → (b == 46) ≡ dot → is_at b ≡ sign
        → position_or_len ends_base t ≤ position_or_len is_at t
        → position_or_len ends_base (b ∷ t) ≤ position_or_len is_at (b ∷ t)
    at true sign d s later = rw (d, s) (omega arith)
    at false true d s later = rw (d, s) (omega arith)
    at false false d s later = rw (d, s) (omega (arith, later))

name_fits : (name : Text) → length (clean_name name) ≤ length name
name_fits name =
    let base = before_first ends_base name in
    let m = from_first is_at name in
    let within = position_or_len-le-length is_at name in
    let ends = ends_before name in
    let base_is : length base ≡ position_or_len ends_base name =
    length-take-le (position_or_len ends_base name) name (omega (arith, within, ends)) in
    let m_is : length m ≡ length name - position_or_len is_at name =
    length-drop (position_or_len is_at name) name in
    omega (arith, within, ends, base_is, m_is, fits base m (modifier m) (has_room m))

-- what is left out at the ends makes nothing longer

length-take : (n : ℕ) (t : Text) → length (take n t) ≤ length t
length-take zero t = omega arith
length-take (suc n) [] = omega arith
length-take (suc n) (b ∷ t) = let rest = length-take n t in omega (arith, rest)

return_fits : (t : Text) → length (without_return t) ≤ length t
return_fits t = by (ends_with nat_eq t (13 ∷ []))
  where
    by : (b : Bool) → length (if b then take (length t - 1) t else t) ≤ length t
    by true = length-take (length t - 1) t
    by false = omega arith

blanks_fit : (t : Text) → length (without_blanks t) ≤ length t
blanks_fit t =
    let first = without_first t in
    let left : length first ≡ length t - prefix_len is_blank t = length-drop (prefix_len is_blank t) t in
    omega (arith, left, length-take (length first - suffix_len is_blank first) first)

pub never_longer : (line : Text) → length (clean line) ≤ length line
never_longer line =
    let cut = without_return line in
    omega (arith, return_fits line, blanks_fit cut, name_fits (without_blanks cut))
