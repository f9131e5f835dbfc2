-- Where the parts of a normal text stand.
use Rattle.std.proofs.Common.{◌≡◌, ℕ, ◌+◌, ◌-◌, ◌≤◌, List, [], ◌∷◌, ◌++◌, length, map, take, drop, refl, sym, ap, ◌∙◌, arith, append_assoc, length-append}
use Rattle.std.specs.List.{AllByRecursion}
use Rattle.std.proofs.lemmas.List.{drop_at, take_at}
use Rattle.iloc_spec_grammar.specs.Meaning.{Locale}
use Rattle.iloc_spec_grammar.specs.Syntax.{Text, join, pieces}
use Rattle.iloc_spec_grammar.proofs.PartTexts.{join-dashes}
use Rattle.iloc_spec_grammar.proofs.PiecesLaws.{join-pieces}
use Rattle.locale_web.specs.Kinds.{ArePlaced, IsOfKind, IsNormalTextOf, KindedPiece, parts_of, rows_from, rows_of}
use Rattle.locale_web.specs.declared.state.State.TheVariants.{Start}
use Rattle.locale_web.proofs.Kinded.{text_kinded, kinded_pieces}

abbrev words_of : List KindedPiece → List Text
words_of ps = map (λ (w : KindedPiece). w.1) ps

are_pieces : (M : Locale) (t : Text) → IsNormalTextOf M t → words_of (parts_of M) ≡ pieces t
are_pieces M t h = ap words_of (sym (text_kinded M t h).kinded) ∙ kinded_pieces Start (pieces t)

pub joined : (M : Locale) (t : Text) → IsNormalTextOf M t →
    join (map (λ (w : KindedPiece). w.1) (parts_of M)) ≡ t
joined M t h = ap join (are_pieces M t h) ∙ join-pieces t

pub words : (M : Locale) (t : Text) → IsNormalTextOf M t → AllByRecursion IsOfKind (parts_of M)
words M t h = (text_kinded M t h).words

-- a piece behind what comes before it
stands : (t front p rest : Text) (at : ℕ) → at ≡ length front → t ≡ front ++ (p ++ rest)
    → (at ≤ at + length p) × (at + length p ≤ length t) × (take (at + length p - at) (drop at t) ≡ p)
stands t front p rest at a e =
    let long : length t ≡ length front + (length p + length rest) =
    ap length e ∙ length-append front (p ++ rest) ∙ ap (λ n. length front + n) (length-append p rest) in
    let size : at + length p - at ≡ length p = omega arith in (
      omega arith,
      omega arith,
      (λ j. take (size j) (drop at (e j))) ∙ ap (take (length p)) (drop_at front (p ++ rest) at (sym a))
          ∙ take_at p rest (length p) refl,
    )

placed_from : (t front : Text) (ps : List KindedPiece) (at : ℕ) → at ≡ length front →
    t ≡ front ++ join (words_of ps)
    → ArePlaced t (rows_from at ps) ps
placed_from t front [] at a e = tt
placed_from t front (w ∷ []) at a e =
    let s = stands t front w.1 [] at a (e ∙ ap (λ l. front ++ l) (join-dashes w.1 [])) in
    (s.0, s.1, s.2, refl, tt)
placed_from t front (w ∷ (v ∷ ps)) at a e =
    let rest = join (words_of (v ∷ ps)) in
    let whole : t ≡ front ++ (w.1 ++ 45 ∷ rest) =
    e ∙ ap (λ l. front ++ l) (join-dashes w.1 (words_of (v ∷ ps))
    ∙ ap (λ l. w.1 ++ 45 ∷ l) (sym (join-dashes v.1 (words_of ps)))) in
    let s = stands t front w.1 (45 ∷ rest) at a whole in
    let before = front ++ (w.1 ++ 45 ∷ []) in
    let long : at + length w.1 + 1 ≡ length before = omega (
      arith,
      a,
      length-append front (w.1 ++ 45 ∷ []),
      length-append w.1 (45 ∷ []),
    ) in
    let cut : t ≡ before ++ rest =
    whole ∙ ap (λ l. front ++ l) (sym (append_assoc w.1 (45 ∷ []) rest))
    ∙ sym (append_assoc front (w.1 ++ 45 ∷ []) rest) in
    (s.0, s.1, s.2, refl, placed_from t before (v ∷ ps) (at + length w.1 + 1) long cut)

pub placed : (M : Locale) (t : Text) → IsNormalTextOf M t → ArePlaced t (rows_of (parts_of M)) (parts_of M)
unfolding rows_of
placed M t h = placed_from t [] (parts_of M) 0 refl (sym (joined M t h))

-- the laws of the parts of a normal text
pub ruleset part_laws = (joined, words, placed)
