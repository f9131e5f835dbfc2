-- Texts that are cut at a hyphen.
use Rattle.std.proofs.Common.{◌≡◌, ℕ, zero, suc, ◌+◌, ◌-◌, ◌<◌, ◌≤◌, List, [], ◌∷◌, ◌++◌, length, get_or, take, drop, refl, arith}
use Rattle.std.specs.List.{onto_first}
use Rattle.iloc_spec_grammar.specs.Syntax.{Text, pieces}
use Rattle.iloc_spec_grammar.proofs.PiecesLaws.{at_pieces}
use Rattle.iloc_normalize.proofs.CopyLemmas.{take_two}

onto_append : (c : ℕ) (t : Text) (qs : List Text) →
    onto_first c (pieces t ++ qs) ≡ onto_first c (pieces t) ++ qs
onto_append c t qs = at_pieces (λ ps. onto_first c (ps ++ qs) ≡ onto_first c ps ++ qs) (λ p ps. refl) t

-- its pieces are those on both sides
pub pieces_both : (s t : Text) → pieces (s ++ 45 ∷ t) ≡ pieces s ++ pieces t
unfolding pieces
pieces_both [] t = refl
pieces_both (c ∷ s) t = grind (arith, pieces_both s t, onto_append)

drop_one : (a : ℕ) (w : Text) → a < length w → drop a w ≡ get_or w a 0 ∷ drop (suc a) w
drop_one zero [] l = absurd (omega arith)
drop_one zero (x ∷ w) l = refl
drop_one (suc a) [] l = absurd (omega arith)
drop_one (suc a) (x ∷ w) l = drop_one a w (omega arith)

-- the first bytes, with a hyphen after so many
module _ (w : Text) (len at : ℕ) (room : len ≤ length w) (less : at < len)
    (hyphen : get_or w at 0 ≡ 45) where
  abbrev pub after : Text
  after = take (len - at - 1) (drop (suc at) w)

  pub from_hyphen : take (len - at) (drop at w) ≡ 45 ∷ after
  from_hyphen = grind (arith, drop_one)

  pub cut_there : take len w ≡ take at w ++ 45 ∷ after
  cut_there = let parts : len ≡ at + (len - at) = omega arith in grind (arith, take_two, from_hyphen)
