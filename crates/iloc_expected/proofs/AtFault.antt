-- What may stand at the place of a fault.
use Rattle.std.proofs.Common.{◌≡◌, ◌≢◌, inl, inr, ℕ, suc, ◌+◌, List, [], ◌∷◌, ◌++◌, length, take, refl, sym, ap, ◌∙◌, subst, append_assoc, append-nil, arith, take_all}
use Rattle.std.specs.List.{AllByRecursion}
use Rattle.std.proofs.lemmas.List.Concat.{flat_map-append}
use Rattle.std.proofs.Math.Seq.{take-append-add}
use Rattle.iloc_spec_grammar.specs.Syntax.{Text, pieces, join, dashes, IsHyphenFree}
use Rattle.iloc_spec_grammar.proofs.PartTexts.{join-dashes}
use Rattle.iloc_spec_grammar.proofs.PiecesLaws.{pieces-join, pieces_hyphen_free}
use Rattle.iloc_spec_grammar.proofs.ReadBack.{all_append}
use Rattle.iloc_pieces.proofs.CursorLemmas.{dashed}
use Rattle.iloc_normalize.specs.declared.Mode.{Mode}
use Rattle.iloc_faults.specs.Places.{GoOn, StandsAtPiece, IsFaultPlace}
use Rattle.iloc_faults.proofs.OnePlace.{fewer}
use Rattle.iloc_expected.specs.declared.kinds.PieceKind.{PieceKind}
use Rattle.iloc_expected.specs.declared.kinds.PieceKind.TheVariants as kinds
use Rattle.iloc_expected.specs.Kinds.{Place, place_after, kind_at, identifier_kind, transform_kind, unicode_kind}
use Rattle.iloc_expected.specs.Standing.{without_empty, pieces_before, MayStand}
use Rattle.iloc_expected.proofs.Following.{by_test}
use Rattle.iloc_expected.proofs.Walk.{front_free, without_end}

-- ---- the pieces before a piece

-- the text of the pieces before it, and a hyphen
cut_text : (t p : Text) (before after : List Text) → pieces t ≡ before ++ (p ∷ after) →
    take (length (dashes before)) t ≡ join (before ++ ([] ∷ []))
unfolding join
cut_text t p [] after e = refl
cut_text t p (b ∷ bs) after e =
    let all : 45 ∷ t ≡ dashes (b ∷ bs) ++ dashes (p ∷ after) =
    sym (dashed t) ∙ ap dashes e ∙ flat_map-append (λ (q : Text). 45 ∷ q) (b ∷ bs) (p ∷ after) in
    let ends : dashes ((b ∷ bs) ++ ([] ∷ [])) ≡ dashes (b ∷ bs) ++ (45 ∷ []) =
    flat_map-append (λ (q : Text). 45 ∷ q) (b ∷ bs) ([] ∷ []) in
    let both : take (length (dashes (b ∷ bs)) + 1) (45 ∷ t) ≡ dashes ((b ∷ bs) ++ ([] ∷ [])) =
    ap (take (length (dashes (b ∷ bs)) + 1)) all
    ∙ take-append-add (dashes (b ∷ bs)) (dashes (p ∷ after)) 1 ∙ sym ends in
    grind (arith, join-dashes)

pub before_piece : (t p : Text) (before after : List Text) (start : ℕ) → pieces t ≡ before ++ (p ∷ after) →
    start ≡ length (dashes before) → pieces_before t start ≡ before
before_piece t p before after start e s =
    ap (λ n. without_empty (pieces (take n t))) s
    ∙ ap (λ q. without_empty (pieces q)) (cut_text t p before after e)
    ∙ ap without_empty (whole before free) ∙ without_end before
  where
    free : AllByRecursion IsHyphenFree (before ++ ([] ∷ []))
    free = all_append IsHyphenFree before ([] ∷ [])
        (front_free before (p ∷ after) (subst (AllByRecursion IsHyphenFree) e (pieces_hyphen_free t)))
        (refl, tt)

    whole : (ps : List Text) → AllByRecursion IsHyphenFree (ps ++ ([] ∷ [])) →
        pieces (join (ps ++ ([] ∷ []))) ≡ ps ++ ([] ∷ [])
    whole [] f = pieces-join [] [] f
    whole (q ∷ ps) f = pieces-join q (ps ++ ([] ∷ [])) f

-- ---- the end

-- only an empty piece is left out
left_out : (ps : List Text) → (rest : List Text) × (ps ≡ without_empty ps ++ rest)
left_out [] = ([], refl)
left_out ([] ∷ []) = ([] ∷ [], refl)
left_out ((c ∷ p) ∷ []) = ([], refl)
left_out ([] ∷ q ∷ ps) = grind (arith, left_out (q ∷ ps))
left_out ((c ∷ p) ∷ q ∷ ps) = grind (arith, left_out (q ∷ ps))

pub before_end : (mode : Mode) (t : Text) (start : ℕ) → start ≡ length t → GoOn mode (pieces t) →
    GoOn mode (pieces_before t start)
before_end mode t start s g = let r = left_out (pieces t) in grind (arith, take_all, fewer)

-- ---- something may stand there

-- a piece is not the end
word_no_end : (p : Text) → identifier_kind p ≢ kinds.End
word_no_end p e = grind (arith, by_test)

transform_no_end : (qs : List Text) (p : Text) → transform_kind qs p ≢ kinds.End
transform_no_end qs p = grind (arith, by_test, word_no_end)

unicode_no_end : (qs : List Text) (p : Text) → unicode_kind qs p ≢ kinds.End
unicode_no_end qs p e = grind (arith, by_test)

no_end : (w : Place) (p : Text) → kind_at w p ≢ kinds.End
no_end w p = grind (arith, by_test, word_no_end, transform_no_end, unicode_no_end)

pub some_kind : (mode : Mode) (ps : List Text) → GoOn mode ps → (kind : PieceKind) × MayStand mode ps kind
some_kind mode ps g = by g.rest g.begins
  where
    stand : (p : Text) (rest : List Text) → pieces g.text ≡ ps ++ (p ∷ rest) → (kind : PieceKind) →
        kind_at (place_after ps) p ≡ kind → MayStand mode ps kind
    stand p rest e kinds.End k = absurd (no_end (place_after ps) p k)
    stand p rest e kind k = record {
      piece = p;
      go_on = record {
        text = g.text;
        accepted = g.accepted;
        rest = rest;
        begins = e ∙ sym (append_assoc ps (p ∷ []) rest);
      };
      is_kind = k;
    }

    by : (rest : List Text) → pieces g.text ≡ ps ++ rest → (kind : PieceKind) × MayStand mode ps kind
    by [] e = (kinds.End, (g.text, g.accepted, e ∙ append-nil ps))
    by (p ∷ rest) e = (kind_at (place_after ps) p, stand p rest e (kind_at (place_after ps) p) refl)

pub at_piece : (mode : Mode) (t : Text) (start end : ℕ) → (p : StandsAtPiece mode t start end) →
    (pieces_before t start ≡ p.before) × ¬ (GoOn mode (pieces_before t start ++ (p.piece ∷ [])))
at_piece mode t start end p = grind (arith, before_piece)

pub at_place : (mode : Mode) (t : Text) (start end : ℕ) → IsFaultPlace mode t start end →
    (kind : PieceKind) × MayStand mode (pieces_before t start) kind
at_place mode t start end (inl p) =
    some_kind mode (pieces_before t start) (subst (GoOn mode) (sym (at_piece mode t start end p).0) p.go_on)
at_place mode t start end (inr p) =
    some_kind mode (pieces_before t start) (before_end mode t start p.from p.go_on)
