-- Pieces that are passed, and the bytes that they are.
use Rattle.std.proofs.Common.{◌≡◌, ◌≢◌, ℕ, suc, ◌+◌, ◌-◌, ◌<◌, ◌≤◌, ◌==◌, true, List, [], ◌∷◌, ◌++◌, length, get_or, take, drop, refl, sym, ap, ◌∙◌, subst, arith, append_assoc, ⊎_elim, append-nil}
use Rattle.std.specs.Int.{is_in_range}
use Rattle.std.specs.List.{AllByRecursion}
use Rattle.std.proofs.Math.Seq.{take-add, take-append_seam, drop-cons}
use Rattle.std.proofs.lemmas.Bool.Decides.{nat_tests}
use Rattle.std.proofs.lemmas.List.{drop-drop, drop-take, length-append, length-drop, length-take-le, get_or-take, get_or-drop, take-take, take_all}
use Rattle.std.proofs.Math.Logic.{∥∥₁_elim}
use Rattle.std.specs.Coded.{Coded-set, coded_ℕ}
use Rattle.iloc_spec_grammar.specs.Syntax.{Text, Kind, Language, Script, Region, Variant, UnicodeKey, TransformKey, Attribute, PrivateSubtag, IsWord, Bounds, languages, is_one_byte, pieces, join, dashes, first_piece, IsHyphenFree}
use Rattle.iloc_spec_grammar.proofs.PartTexts.{join-append, join-dashes, dashes-append}
use Rattle.iloc_spec_grammar.proofs.PiecesLaws.{at_pieces, join-pieces, pieces-join, pieces_hyphen_free}
use Rattle.iloc_spec_grammar.proofs.RawLaws.{languages_table}
use Rattle.iloc_pieces.specs.Cursor.{IsLater, IsNextPiece, IsPast, IsEnd, IsSpanned, IsShortPiece, piece_left, pieces_left, bytes_left, whole_text}
use Rattle.iloc_pieces.specs.declared.place.Cursor.{Cursor}
use Rattle.iloc_pieces.proofs.Shapes.{few_bytes}

-- ---- words are short

-- no word of a kind is longer than eight bytes; of all kinds but a language, Bounds is proved by tt
pub short_word : (k : Kind) → Bounds 8 k → (p : Text) → IsWord k p → IsShortPiece p
short_word k ends p h = few_bytes k ends p h

-- the same of each kind
pub short_language : (p : Text) → IsWord (Language languages) p → IsShortPiece p
short_language p h = grind (arith, few_bytes, languages_table)

pub short_script : (p : Text) → IsWord Script p → IsShortPiece p
short_script p h = few_bytes Script tt p h

pub short_region : (p : Text) → IsWord Region p → IsShortPiece p
short_region p h = few_bytes Region tt p h

pub short_variant : (p : Text) → IsWord Variant p → IsShortPiece p
short_variant p h = few_bytes Variant tt p h

pub short_key : (p : Text) → IsWord UnicodeKey p → IsShortPiece p
short_key p h = few_bytes UnicodeKey tt p h

pub short_field_key : (p : Text) → IsWord TransformKey p → IsShortPiece p
short_field_key p h = few_bytes TransformKey tt p h

pub short_attribute : (p : Text) → IsWord Attribute p → IsShortPiece p
short_attribute p h = few_bytes Attribute tt p h

pub short_private : (p : Text) → IsWord PrivateSubtag p → IsShortPiece p
short_private p h = few_bytes PrivateSubtag tt p h

one_few : (n : ℕ) → (n == 1) ≡ true → n ≤ 8
one_few n h = grind (arith, nat_tests)

-- a piece of one byte, and of two to eight
pub single_short : (p : Text) → is_one_byte p ≡ true → IsShortPiece p
single_short p h = one_few (length p) h

range_few : (n : ℕ) → is_in_range 2 8 n ≡ true → n ≤ 8
range_few n h = grind (arith, nat_tests)

pub between_short : (p : Text) → is_in_range 2 8 (length p) ≡ true → IsShortPiece p
between_short p h = range_few (length p) h

-- ---- the pieces of a text

-- a piece that is as long as the text is all of it
one_piece : (t : Text) → length t ≤ length (first_piece (pieces t)) → pieces t ≡ first_piece (pieces t) ∷ []
one_piece t long =
    at_pieces (λ ps. join ps ≡ t → length t ≤ length (first_piece ps) → ps ≡ first_piece ps ∷ []) by t
    (join-pieces t) long
  where
    by : (p : Text) (ps : List Text) → join (p ∷ ps) ≡ t → length t ≤ length p → p ∷ ps ≡ p ∷ []
    by p [] e l = refl
    by p (q ∷ ps) e l =
        absurd (omega
        (arith, ap length (sym (join-dashes p (q ∷ ps)) ∙ e), length-append p (dashes (q ∷ ps))))

-- the text begins with its first piece
pub begins : (t : Text) → take (length (first_piece (pieces t))) t ≡ first_piece (pieces t)
begins t = at_pieces (λ ps. join ps ≡ t → take (length (first_piece ps)) t ≡ first_piece ps) by t
    (join-pieces t)
  where
    by : (p : Text) (ps : List Text) → join (p ∷ ps) ≡ t → take (length p) t ≡ p
    by p ps e = ap (take (length p)) (sym e ∙ join-dashes p ps) ∙ take-append_seam p (dashes ps)

-- its first piece is no longer than the text
pub first_within : (t : Text) → length (first_piece (pieces t)) ≤ length t
first_within t = at_pieces (λ ps. join ps ≡ t → length (first_piece ps) ≤ length t) by t (join-pieces t)
  where
    by : (p : Text) (ps : List Text) → join (p ∷ ps) ≡ t → length p ≤ length t
    by p ps e = omega (arith, ap length (sym (join-dashes p ps) ∙ e), length-append p (dashes ps))

pub dashed : (t : Text) → dashes (pieces t) ≡ 45 ∷ t
dashed t = at_pieces (λ ps. dashes ps ≡ 45 ∷ join ps) (λ p ps. ap (λ q. 45 ∷ q) (sym (join-dashes p ps))) t
    ∙ ap (λ q. 45 ∷ q) (join-pieces t)

-- a text whose first pieces are ps goes on behind a hyphen
pub cut_after : (ps : List Text) (t u : Text) → pieces t ≡ ps ++ pieces u → ps ≢ [] → t ≡ join ps ++ 45 ∷ u
cut_after [] t u e some = absurd (some refl)
cut_after (p ∷ ps) t u e some =
    sym (join-pieces t) ∙ ap join e ∙ join-append p ps (pieces u) ∙ ap (λ q. join (p ∷ ps) ++ q) (dashed u)

-- a text that is longer than its first piece goes on behind a hyphen
pub first_cut : (t : Text) → length (first_piece (pieces t)) < length t
    → pieces t ≡ first_piece (pieces t) ∷ pieces (drop (suc (length (first_piece (pieces t)))) t)
first_cut t more =
    at_pieces (λ ps. AllByRecursion IsHyphenFree ps → join ps ≡ t → length (first_piece ps) < length t
    → ps ≡ first_piece ps ∷ pieces (drop (suc (length (first_piece ps))) t)) by t (pieces_hyphen_free t)
    (join-pieces t) more
  where
    after : (p q : Text) → drop (suc (length p)) (p ++ 45 ∷ q) ≡ q
    after [] q = refl
    after (b ∷ p) q = after p q

    by : (p : Text) (ps : List Text) → AllByRecursion IsHyphenFree (p ∷ ps) → join (p ∷ ps) ≡ t
        → length p < length t
        → p ∷ ps ≡ p ∷ pieces (drop (suc (length p)) t)
    by p [] f e l = absurd (omega (arith, ap length (sym (join-dashes p []) ∙ e), length-append p []))
    by p (q ∷ ps) f e l =
        let rest : dashes (q ∷ ps) ≡ 45 ∷ join (q ∷ ps) = ap (λ r. 45 ∷ r) (sym (join-dashes q ps)) in
        let cut : drop (suc (length p)) t ≡ join (q ∷ ps) =
        ap (drop (suc (length p))) (sym e ∙ join-dashes p (q ∷ ps) ∙ ap (λ r. p ++ r) rest)
        ∙ after p (join (q ∷ ps)) in
        ap (λ r. p ∷ r) (sym (pieces-join q ps f.1) ∙ ap pieces (sym cut))

-- ---- the last piece

-- the length of a short piece
pub length_piece : (l : Cursor) → IsShortPiece (piece_left l) → l.piece_length ≡ length (piece_left l)
length_piece l short = ∥∥₁_elim l.piece (Coded-set coded_ℕ _ _) (⊎_elim
    (λ shape. shape.long)
    (λ long. absurd (omega (arith, long.long))))

-- a piece of fewer than sixteen bytes is as long as it says
pub few_long : (l : Cursor) → l.piece_length < 16 → l.piece_length ≡ length (piece_left l)
few_long l few = ∥∥₁_elim l.piece (Coded-set coded_ℕ _ _) (⊎_elim
    (λ s. s.long)
    (λ k. absurd (let m = k.most in omega arith)))

-- how long is what is left, and the text
pub length_rest : (l : Cursor) → length (bytes_left l) ≡ l.remaining
length_rest l = grind (arith, length-take-le, length-drop)

pub length_text : (l : Cursor) → length (whole_text l) ≡ l.at + l.remaining
length_text l = grind (arith, length-take-le)

-- the piece lies within the window
pub piece_inside : (l : Cursor) → l.at + length (piece_left l) ≤ length l.window.now
piece_inside l = grind (arith, length_rest, first_within)

-- the piece is among the window's bytes
pub piece_bytes : (l : Cursor) →
    take (length (piece_left l)) (drop l.at l.window.now) ≡ piece_left l
piece_bytes l =
    let few : length (piece_left l) ≤ l.remaining =
    omega (arith, length_rest l, first_within (bytes_left l)) in
    sym (take-take (length (piece_left l)) l.remaining (drop l.at l.window.now) few) ∙ begins (bytes_left l)

-- the same by the length that is known
pub short_bytes : (l : Cursor) → IsShortPiece (piece_left l)
    → take l.piece_length (drop l.at l.window.now) ≡ piece_left l
short_bytes l short = grind (arith, length_piece, piece_bytes)

-- each of its bytes
pub piece_byte : (l : Cursor) (i : ℕ) → i < length (piece_left l)
    → get_or (piece_left l) i 0 ≡ get_or l.window.now (l.at + i) 0
piece_byte l i early =
    ap (λ p. get_or p i 0) (sym (piece_bytes l))
    ∙ get_or-take (length (piece_left l)) (drop l.at l.window.now) i 0 early
    ∙ get_or-drop l.at l.window.now i 0

-- a short piece that is as long as what is left is the last one
pub last_piece : (l : Cursor) → l.piece_length ≡ l.remaining → IsShortPiece (piece_left l) → IsEnd l
last_piece l end short = grind (arith, one_piece, length_piece, length_rest)

-- it is all that is left
pub last_rest : {l : Cursor} → IsEnd l → bytes_left l ≡ piece_left l
last_rest {l} end =
    sym (join-pieces (bytes_left l)) ∙ ap join end.one ∙ join-dashes (piece_left l) []
    ∙ append-nil (piece_left l)

-- ---- the bytes that pieces are

-- the bytes from one place to another, and from there to a third
pub spanned_both : {t : Text} {start middle end : ℕ} {ps qs : List Text} → IsSpanned t start middle ps
    → IsSpanned t middle end qs
    → IsSpanned t start end (ps ++ qs)
spanned_both {t} {start} {middle} {end} {ps} {qs} s r =
    let parts : end - start ≡ (middle - start) + (end - middle) = omega (arith, s.ascends, r.ascends) in
    grind (arith, drop-drop, take-add, dashes-append)

-- no piece has no bytes
pub spanned_none : (l : Cursor) → IsLater l → IsSpanned (whole_text l) (l.at - 1) (l.at - 1) []
spanned_none l later = grind (arith, length_text)

-- the hyphen before a piece, and what is left
pub hyphen_rest : (l : Cursor) → IsLater l → drop (l.at - 1) (whole_text l) ≡ 45 ∷ bytes_left l
hyphen_rest l later =
    let w = l.window.now in
    let parts : l.at + l.remaining ≡ (l.at - 1) + suc l.remaining = omega (arith, later.after) in
    grind (arith, drop-take, drop-cons)

-- one piece behind its hyphen
pub spanned_piece : (l : Cursor) → IsLater l
    → IsSpanned (whole_text l) (l.at - 1) (l.at + length (piece_left l)) (piece_left l ∷ [])
spanned_piece l later =
    let long : l.at + length (piece_left l) - (l.at - 1) ≡ suc (length (piece_left l)) =
    omega (arith, later.after) in
    grind (arith, length_text, length_rest, first_within, hyphen_rest, begins, append-nil)

-- all that is left
pub spanned_all : (l : Cursor) → IsLater l
    → IsSpanned (whole_text l) (l.at - 1) (l.at + l.remaining) (pieces_left l)
spanned_all l later = grind (arith, length_text, hyphen_rest, take_all, length_rest, dashed)

-- where the next piece begins
pub next_at : (l k : Cursor) → IsNextPiece l k → k.at ≡ l.at + length (piece_left l) + 1
next_at l k next =
    omega (
      arith,
      next.end,
      length_rest l,
      length_rest k,
      ap length next.rest,
      length-append (piece_left l) (45 ∷ bytes_left k),
    )

-- one piece more, after which another begins
pub spanned_next : {l k : Cursor} {start : ℕ} {ps : List Text} → IsLater l → IsNextPiece l k
    → IsSpanned (whole_text l) start (l.at - 1) ps
    → IsSpanned (whole_text l) start (k.at - 1) (ps ++ (piece_left l ∷ []))
spanned_next h k e = grind (arith, next_at, spanned_both, spanned_piece)

-- one piece more, the last one
pub spanned_last : {l : Cursor} {start : ℕ} {ps : List Text} → IsLater l → IsEnd l
    → IsSpanned (whole_text l) start (l.at - 1) ps
    → IsSpanned (whole_text l) start (l.at + l.piece_length) (ps ++ (piece_left l ∷ []))
spanned_last h k e = grind (arith, length_rest, last_rest, spanned_both, spanned_piece)

-- ---- pieces that are passed

-- no piece is passed
pub past_none : (l : Cursor) → IsLater l → IsPast l l []
past_none l later = grind (arith, append-nil)

-- l need not be later
pub past_first : {l k : Cursor} → IsShortPiece (piece_left l) → IsNextPiece l k →
    IsPast l k (piece_left l ∷ [])
past_first {l} {k} short next = record {
  later = next.later;
  less = omega (arith, next.less);
  window = next.window;
  end = next.end;
  text = λ j. take (next.end j) (next.window j);
  pieces = next.pieces;
  spanned = λ later start qs s. spanned_next later next s;
  rest = cut_after (piece_left l ∷ []) (bytes_left l) (bytes_left k) next.pieces;
}

-- pieces are passed, and then others
pub past_past : {l m k : Cursor} {ps qs : List Text} → IsPast l m ps → IsPast m k qs → IsPast l k (ps ++ qs)
past_past {l} {m} {k} {ps} {qs} p q =
    let all : pieces_left l ≡ (ps ++ qs) ++ pieces_left k =
    p.pieces ∙ ap (λ rs. ps ++ rs) q.pieces ∙ sym (append_assoc ps qs (pieces_left k)) in
    record {
      later = q.later;
      less = omega (arith, p.less, q.less);
      window = q.window ∙ p.window;
      end = q.end ∙ p.end;
      text = q.text ∙ p.text;
      pieces = all;
      spanned = λ later start rs s.
          subst (λ (xs : List Text). IsSpanned (whole_text l) start (k.at - 1) xs) (append_assoc rs ps qs)
          (subst (λ (t : Text). IsSpanned t start (k.at - 1) ((rs ++ ps) ++ qs)) p.text
          (q.spanned p.later start (rs ++ ps)
          (grind arith)));
      rest = cut_after (ps ++ qs) (bytes_left l) (bytes_left k) all;
    }

-- one piece more is passed
pub past_next : {l m k : Cursor} {ps : List Text} → IsPast l m ps → IsShortPiece (piece_left m) →
    IsNextPiece m k
    → IsPast l k (ps ++ (piece_left m ∷ []))
past_next p short next = past_past p (past_first short next)

-- all the pieces, where the last one is reached
pub pieces_end : {l m : Cursor} {ps : List Text} → IsPast l m ps → IsEnd m
    → pieces_left l ≡ ps ++ (piece_left m ∷ [])
pieces_end h k = grind arith

-- pieces are passed, and the last one is reached
pub spanned_end : {l m : Cursor} {start : ℕ} {ps qs : List Text} → IsPast l m ps → IsEnd m → IsLater l
    → IsSpanned (whole_text l) start (l.at - 1) qs
    → IsSpanned (whole_text l) start (m.at + m.piece_length) (qs ++ (ps ++ (piece_left m ∷ [])))
spanned_end {l} {m} {start} {ps} {qs} p end later s =
    subst (λ (xs : List Text). IsSpanned (whole_text l) start (m.at + m.piece_length) xs)
    (append_assoc qs ps (piece_left m ∷ []))
    (subst (λ (t : Text). IsSpanned t start (m.at + m.piece_length) ((qs ++ ps) ++ (piece_left m ∷ [])))
    p.text
    (spanned_last p.later end
    (grind arith)))
