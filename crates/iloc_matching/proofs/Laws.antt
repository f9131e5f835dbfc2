-- What matches what.
use Rattle.std.proofs.Common.{◌≡◌, ◌≢◌, ◌⊎◌, inl, inr, List, [], ◌∷◌, ◌++◌, length, true, false, ℕ, ◌==◌, cond, refl, sym, ap, ◌∙◌, subst, codes}
use Rattle.std.specs.List.{onto_first}
use Rattle.std.specs.Str.{bytes_eq}
use Rattle.std.proofs.lemmas.Slice.Eq.{bytes_eq-Decides}
use Rattle.std.proofs.lemmas.Bool.Decides.{not_from_Decides}
use Rattle.iloc_spec_grammar.specs.Syntax.{Text, pieces}
use Rattle.iloc_spec_grammar.proofs.PiecesLaws.{at_pieces, pieces_nonempty}
use Rattle.iloc_matching.specs.Range.{Follows, Matches}

-- two pieces are equal or not
equal_or_not : (w p : Text) → (w ≡ p) ⊎ (w ≢ p)
equal_or_not w p = (elim (bytes_eq w p) as (λ b. bytes_eq w p ≡ b → (w ≡ p) ⊎ (w ≢ p)) [
  | true ↦ λ e. inl ((bytes_eq-Decides w p).0 e)
  | false ↦ λ e. inr (not_from_Decides (bytes_eq w p) (bytes_eq-Decides w p) e)
]) refl

-- of pieces that are given, the first that is wanted may be wanted no more
abbrev Drops : List Text → Type 0
Drops ps = (w : Text) (ws : List Text) → length w ≢ 1 → Follows (w ∷ ws) ps → Follows ws ps

-- then one more that is no singleton may be given before them
skips_by : (ps : List Text) → Drops ps → (ws : List Text) (p : Text) → length p ≢ 1 → Follows ws ps →
    Follows ws (p ∷ ps)
skips_by ps d [] p h f = tt
skips_by ps d (w ∷ ws) p h f =
    elim (equal_or_not w p) [
      | inl e ↦ inl (e, d w ws (λ n. h (ap length (sym e) ∙ n)) f)
      | inr e ↦ inr (e, h, f)
    ]

drops : (ps : List Text) → Drops ps
drops [] w ws h f = absurd f
drops (q ∷ qs) w ws h f =
    elim f [
      | inl a ↦ skips_by qs (drops qs) ws q (λ n. h (ap length a.0 ∙ n)) a.1
      | inr b ↦ skips_by qs (drops qs) ws q b.1 (drops qs w ws h b.2)
    ]

skips : (ws ps : List Text) (p : Text) → length p ≢ 1 → Follows ws ps → Follows ws (p ∷ ps)
skips ws ps p h f = skips_by ps (drops ps) ws p h f

follows_transitive : (xs ys zs : List Text) → Follows ys xs → Follows zs ys → Follows zs xs
follows_transitive xs ys [] f g = tt
follows_transitive xs [] (z ∷ zs) f g = absurd g
follows_transitive [] (y ∷ ys) (z ∷ zs) f g = absurd f
follows_transitive (x ∷ xs) (y ∷ ys) (z ∷ zs) f g =
    elim f [
      | inl a ↦ elim g [
        | inl b ↦ inl (b.0 ∙ a.0, follows_transitive xs ys zs a.1 b.1)
        | inr b ↦ inr (
          (λ e. b.0 (e ∙ sym a.0)),
          (λ n. b.1 (ap length a.0 ∙ n)),
          follows_transitive xs ys (z ∷ zs) a.1 b.2,
        )
      ]
      | inr a ↦ skips (z ∷ zs) xs x a.1 (follows_transitive xs (y ∷ ys) (z ∷ zs) a.2 g)
    ]

follows_first : (ps qs : List Text) → Follows ps (ps ++ qs)
follows_first [] qs = tt
follows_first (p ∷ ps) qs = inl (refl, follows_first ps qs)

follows_itself : (ps : List Text) → Follows ps ps
follows_itself [] = tt
follows_itself (p ∷ ps) = inl (refl, follows_itself ps)

pub everything : (t : Text) → Matches (pieces t) (pieces (codes "und"))
unfolding pieces
everything t = at_pieces (λ ps. Matches ps (pieces (codes "und"))) (λ p ps. (inl refl, tt)) t

pub itself : (t : Text) → Matches (pieces t) (pieces t)
itself t = at_pieces (λ ps. Matches ps ps) (λ p ps. (inr refl, follows_itself ps)) t

matches_first : (ps qs : List Text) → ps ≢ [] → Matches (ps ++ qs) ps
matches_first [] qs h = absurd (h refl)
matches_first (p ∷ ps) qs h = (inr refl, follows_first ps qs)

matches_transitive : (ps qs rs : List Text) → Matches ps qs → Matches qs rs → Matches ps rs
matches_transitive [] qs rs f g = absurd f
matches_transitive (p ∷ ps) [] rs f g = absurd f
matches_transitive (p ∷ ps) (q ∷ qs) [] f g = absurd g
matches_transitive (p ∷ ps) (q ∷ qs) (r ∷ rs) f g = (
  elim g.0 [
    | inl e ↦ inl e
    | inr e ↦ elim f.0 [ inl d ↦ inl (e ∙ d) | inr d ↦ inr (e ∙ d) ]
  ],
  follows_transitive ps qs rs f.1 g.1,
)

pub transitive : (t u v : Text) → Matches (pieces t) (pieces u) → Matches (pieces u) (pieces v) →
    Matches (pieces t) (pieces v)
transitive t u v f g = matches_transitive (pieces t) (pieces u) (pieces v) f g

onto_append : (c : ℕ) (ps qs : List Text) → ps ≢ [] →
    onto_first c (ps ++ qs) ≡ onto_first c ps ++ qs
onto_append c [] qs h = absurd (h refl)
onto_append c (p ∷ ps) qs h = refl

-- a text that is cut at a hyphen has the pieces of both parts
pieces_append : (t rest : Text) → pieces (t ++ 45 ∷ rest) ≡ pieces t ++ pieces rest
unfolding pieces
pieces_append [] rest = refl
pieces_append (c ∷ t) rest =
    let ih = pieces_append t rest in
    elim (c == 45) as (λ b. cond b ([] ∷ pieces (t ++ 45 ∷ rest)) (onto_first c (pieces (t ++ 45 ∷ rest)))
    ≡ cond b ([] ∷ pieces t) (onto_first c (pieces t)) ++ pieces rest) [
      | true ↦ ap (λ l. [] ∷ l) ih
      | false ↦ ap (onto_first c) ih ∙ onto_append c (pieces t) (pieces rest) (pieces_nonempty t)
    ]

pub cut : (t rest : Text) → Matches (pieces (t ++ 45 ∷ rest)) (pieces t)
cut t rest =
    let P : List Text → Type 0 = λ ps. Matches ps (pieces t) in
    subst P (sym (pieces_append t rest)) (matches_first (pieces t) (pieces rest) (pieces_nonempty t))
