-- The front of an identifier: how it is passed, and how it is printed.
use Rattle.std.proofs.Common.{◌≡◌, ◌≢◌, ℕ, zero, suc, ◌+◌, ◌-◌, ◌<◌, ◌≤◌, ◌==◌, Bool, true, false, cond, ◌&&◌, List, [], ◌∷◌, ◌++◌, length, map, take, drop, Option, Some, None, refl, sym, ap, ◌∙◌, subst, arith, inl, inr, append_assoc, append-nil}
use Rattle.std.specs.Prelude.{IfSome, option_map, option_to_list}
use Rattle.std.specs.List.{list_all}
use Rattle.std.specs.Char.{is_ascii_digit, to_ascii_lowercase, to_ascii_uppercase}
use Rattle.std.proofs.Math.Seq.{take-append_seam}
use Rattle.std.proofs.lemmas.Bool.{and_parts, cases_Bool, cond_both, eqb-true}
use Rattle.std.proofs.lemmas.Bool.Decides.{nat_tests}
use Rattle.std.proofs.lemmas.List.{drop-append-le, drop-drop, drop_all, length-append, length-drop, length-map, length-take-le, map-append, take-append-drop, take-append-le, take_all}
use Rattle.iloc_spec_grammar.specs.Syntax.{Text, Kind, Language, Script, Region, IsWord, is_word, Bounds, languages, pieces, first_piece, join, lower, upper, title}
use Rattle.iloc_spec_grammar.specs.Reading.{front_of, rest_of, take_first, skip_first, after_script, after_region}
use Rattle.iloc_spec_grammar.proofs.PiecesLaws.{at_pieces, join-pieces}
use Rattle.iloc_spec_grammar.proofs.ReadingLaws.{take_first_passes}
use Rattle.iloc_spec_grammar.proofs.RawLaws.{languages_table}
use Rattle.iloc_spec_grammar.proofs.WordsLaws.{length-language, length-lower, length-normal, length-region, length-script, upper-lower}
use Rattle.iloc_outline.specs.Identifier.{IsFrontRead, IsAfterFront, IsOnePast, front_text, raised}
use Rattle.iloc_pieces.specs.Cursor as cursor
use Rattle.iloc_pieces.specs.Cursor.{IsLater, IsNextPiece, IsPast, IsSpanned, piece_left, pieces_left, whole_text}
use Rattle.iloc_outline.specs.Parts.{front_pieces}
use Rattle.iloc_outline.specs.Reading.{unless_end}
use Rattle.iloc_pieces.specs.declared.place.Cursor.{Cursor}
use Rattle.iloc_pieces.proofs.CursorLemmas.{length_piece, length_rest, length_text, next_at, past_first, past_next, short_language, short_word, spanned_all, spanned_both}

-- ---- pieces that are passed, to another one or to the end

abbrev pub IsAfter : Cursor → Option Cursor → List Text → Type 0
IsAfter l None ps = pieces_left l ≡ ps
IsAfter l (Some m) ps = IsPast l m ps

-- what is left
abbrev pub pieces_of_next : Option Cursor → List Text
pieces_of_next None = []
pieces_of_next (Some m) = pieces_left m

-- where they end
abbrev pub end_of : Cursor → Option Cursor → ℕ
end_of l None = l.at + l.remaining
end_of l (Some m) = m.at - 1

after_end : (l : Cursor) (ps : List Text) (o : Option Cursor) → IsAfter l o ps →
    (start : ℕ) (qs : List Text) → IsLater l
    → IsSpanned (whole_text l) start (l.at - 1) qs → IsSpanned (whole_text l) start (end_of l o) (qs ++ ps)
after_end l ps None a start qs later s = grind (arith, spanned_both, spanned_all)
after_end l ps (Some m) a start qs later s = a.spanned later start qs s

after_inside : (l : Cursor) (ps : List Text) (o : Option Cursor) → IsAfter l o ps
    → end_of l o ≤ l.at + l.remaining
after_inside l ps None a = omega arith
after_inside l ps (Some m) a = omega (arith, a.end)

-- at the beginning of the text
pub begins_text : (l : Cursor) → l.at ≡ 0 → whole_text l ≡ cursor.bytes_left l
begins_text l first = grind arith

after_text : (l : Cursor) (ps : List Text) (o : Option Cursor) → IsAfter l o ps → ps ≢ [] →
    l.at ≡ 0
    → take (end_of l o) (whole_text l) ≡ join ps
after_text l ps None a some first = grind (arith, take_all, length_text, begins_text, join-pieces)
after_text l ps (Some m) a some first =
    let cut : whole_text l ≡ join ps ++ 45 ∷ cursor.bytes_left m = begins_text l first ∙ a.rest some in
    let long : m.at - 1 ≡ length (join ps) =
    omega (
      arith,
      a.end,
      length_text l,
      length_rest m,
      ap length cut,
      length-append (join ps) (45 ∷ cursor.bytes_left m),
    ) in
    (λ j. take (long j) (cut j)) ∙ take-append_seam (join ps) (45 ∷ cursor.bytes_left m)

-- ---- one piece, if it is a word of the kind

took : (k : Kind) (t : Text) → is_word k (first_piece (pieces t)) ≡ true →
    take_first (is_word k) (pieces t) ≡ Some (first_piece (pieces t))
took k t =
    at_pieces (λ ps. is_word k (first_piece ps) ≡ true → take_first (is_word k) ps ≡ Some (first_piece ps))
    (λ p ps e. ap (λ (b : Bool). cond b (Some p) None) e) t

took_none : (k : Kind) (t : Text) → is_word k (first_piece (pieces t)) ≡ false →
    take_first (is_word k) (pieces t) ≡ None
took_none k t = grind (arith, at_pieces)

skipped : (k : Kind) (p : Text) (ps : List Text) → is_word k p ≡ true → skip_first (is_word k) (p ∷ ps) ≡ ps
skipped k p ps e = ap (λ (b : Bool). cond b ps (p ∷ ps)) e

skipped_none : (k : Kind) (t : Text) → is_word k (first_piece (pieces t)) ≡ false →
    skip_first (is_word k) (pieces t) ≡ pieces t
skipped_none k t = grind (arith, at_pieces)

-- it is passed, and what is left is said
pub record Steps (k : Kind) (l m : Cursor) (o : Option Cursor) (ps : List Text) : Type 0 where
  pub passed : IsAfter l o (ps ++ option_to_list (take_first (is_word k) (pieces_left m)))
  pub rest : skip_first (is_word k) (pieces_left m) ≡ pieces_of_next o

pub step : (k : Kind) → Bounds 8 k → {l m : Cursor} {ps : List Text} → IsPast l m ps → (b : Bool) →
    b ≡ is_word k (piece_left m)
    → (o : Option Cursor) → IsOnePast b m o → Steps k l m o ps
step k ends {l} {m} {ps} p true e None a = grind (arith, took, skipped)
step k ends {l} {m} {ps} p true e (Some n) a = record {
  passed = subst (λ (w : Option Text). IsPast l n (ps ++ option_to_list w))
      (sym (took k (cursor.bytes_left m) (sym e)))
      (past_next p (short_word k ends (piece_left m) (sym e)) a);
  rest = ap (skip_first (is_word k)) a.pieces ∙ skipped k (piece_left m) (pieces_left n) (sym e);
}
step k ends p false e None a = absurd (a tt)
step k ends {l} {m} {ps} p false e (Some n) a = grind (arith, took_none, append-nil, skipped_none)

-- ---- how it is printed

raise_front : (a b : Text) → take (suc (length a)) (a ++ 45 ∷ b) ≡ a ++ 45 ∷ []
raise_front [] b = refl
raise_front (c ∷ a) b = ap (λ t. c ∷ t) (raise_front a b)

raise_rest : (a b : Text) → drop (suc (length a)) (a ++ 45 ∷ b) ≡ b
raise_rest [] b = refl
raise_rest (c ∷ a) b = raise_rest a b

-- bytes behind a hyphen
raise_at : (n : ℕ) (a b : Text) (p : ℕ) → p ≡ suc (length a) →
    raised n p (a ++ 45 ∷ b) ≡ a ++ 45 ∷ (upper (take n b) ++ drop n b)
raise_at n a b p e =
    let rest = raise_rest a b in
    let more : drop (suc (length a) + n) (a ++ 45 ∷ b) ≡ drop n b =
    sym (drop-drop n (suc (length a)) (a ++ 45 ∷ b)) ∙ ap (drop n) rest in
    grind (arith, raise_front, append_assoc)

low-append : (a b : Text) → lower (a ++ 45 ∷ b) ≡ lower a ++ 45 ∷ lower b
unfolding lower
low-append a b = map-append to_ascii_lowercase a (45 ∷ b)

-- the first letter of a script
title_front : (s x : Text) → 0 < length s →
    upper (take 1 (lower s ++ x)) ++ drop 1 (lower s ++ x) ≡ title s ++ x
unfolding lower upper title
title_front [] x some = absurd (omega arith)
title_front (c ∷ s) x some = ap (λ t. t ++ (map to_ascii_lowercase s ++ x)) (upper-lower (c ∷ []))

-- the letters of a region, or its digits
digits_same : (r : Text) → list_all is_ascii_digit r ≡ true → lower r ≡ upper r
unfolding lower upper
digits_same [] h = refl
digits_same (c ∷ r) h = let parts = and_parts _ _ h in λ j. byte c parts.0 j ∷ digits_same r parts.1 j
  where
    byte : (c : ℕ) → is_ascii_digit c ≡ true → to_ascii_lowercase c ≡ to_ascii_uppercase c
    byte c h = grind (arith, nat_tests)

three_digits : (r : Text) → IsWord Region r → (length r == 2) ≡ false → list_all is_ascii_digit r ≡ true
unfolding is_word
three_digits r h e = grind arith

region_printed : (a r : Text) (p : ℕ) → IsWord Region r → p ≡ cond (length r == 2) (suc (length a)) 0
    → raised 2 p (a ++ 45 ∷ lower r) ≡ a ++ 45 ∷ upper r
region_printed a r p h e = elim (cases_Bool (length r == 2)) [
  | inl two ↦
      let long : length (lower r) ≤ 2 = omega (arith, length-lower r, eqb-true _ _ two) in
      raise_at 2 a (lower r) p (e ∙ ap (λ (b : Bool). cond b (suc (length a)) 0) two)
      ∙ ap (λ t. a ++ 45 ∷ t) (simp (take_all, drop_all, append-nil, upper-lower))
  | inr other ↦
      grind (arith, digits_same, three_digits)
]

-- where they begin; 0 if nothing is put in upper case
abbrev pub script_at : Text → Option Text → ℕ
script_at l None = 0
script_at l (Some s) = suc (length l)

abbrev pub region_at : Text → Option Text → Option Text → ℕ
region_at l s None = 0
region_at l s (Some r) = cond (length r == 2) (suc (length (join (l ∷ option_to_list s)))) 0

printed_part : (l : Text) (s r : Option Text) → IfSome s (IsWord Script) → IfSome r (IsWord Region)
    → front_text (script_at l s) (region_at l s r) (join (l ∷ (option_to_list s ++ option_to_list r)))
    ≡ join (lower l ∷ (option_to_list (option_map title s) ++ option_to_list (option_map upper r)))
unfolding join
printed_part l None None h g = refl
printed_part l (Some s) None h g = ap (raised 1 (suc (length l))) (low-append l s)
    ∙ raise_at 1 (lower l) (lower s) (suc (length l)) (ap suc (sym (length-lower l)))
    ∙ ap (λ t. lower l ++ 45 ∷ t) (ap (λ t. upper (take 1 t) ++ drop 1 t) (sym (append-nil (lower s)))
    ∙ title_front s [] (omega (arith, length-script s h)) ∙ append-nil (title s))
printed_part l None (Some r) h g = simp (length-lower, low-append, region_printed)
printed_part l (Some s) (Some r) h g =
    let t : Text = lower l ++ 45 ∷ title s in
    let low : lower (l ++ 45 ∷ (s ++ 45 ∷ r)) ≡ lower l ++ 45 ∷ (lower s ++ 45 ∷ lower r) =
    low-append l (s ++ 45 ∷ r) ∙ ap (λ x. lower l ++ 45 ∷ x) (low-append s r) in
    let script : raised 1 (suc (length l)) (lower (l ++ 45 ∷ (s ++ 45 ∷ r))) ≡ t ++ 45 ∷ lower r =
    ap (raised 1 (suc (length l))) low
    ∙ raise_at 1 (lower l) (lower s ++ 45 ∷ lower r) (suc (length l)) (ap suc (sym (length-lower l)))
    ∙ ap (λ x. lower l ++ 45 ∷ x) (title_front s (45 ∷ lower r) (omega (arith, length-script s h)))
    ∙ sym (append_assoc (lower l) (45 ∷ title s) (45 ∷ lower r)) in
    let long : length (l ++ 45 ∷ s) ≡ length t =
    omega (
      arith,
      length-append l (45 ∷ s),
      length-append (lower l) (45 ∷ title s),
      length-lower l,
      length-normal Script s,
    ) in
    grind (arith, region_printed, append_assoc)

-- they are within the text
placed : (l : Text) (s r : Option Text) → 2 ≤ length l → IfSome s (IsWord Script) → IfSome r (IsWord Region)
    → (script_at l s < length (join (l ∷ (option_to_list s ++ option_to_list r))))
    × (region_at l s r + 1 < length (join (l ∷ (option_to_list s ++ option_to_list r))))
unfolding join
placed l None None long h g = (omega arith, omega arith)
placed l (Some s) None long h g = grind (arith, length-append, length-script)
placed l None (Some r) long h g = grind (arith, length-append, length-region, cond_both)
placed l (Some s) (Some r) long h g = grind (arith, length-append, length-script, length-region, cond_both)

-- bytes behind them are in lower case
raised-append : (n k : ℕ) (t u : Text) → k + n ≤ length t → raised n k (t ++ u) ≡ raised n k t ++ u
raised-append n zero t u h = refl
raised-append n (suc k) t u h = grind (arith, take-append-le, drop-append-le, length-drop, append_assoc)

pub length-raised : (n k : ℕ) (t : Text) → length (raised n k t) ≡ length t
unfolding upper
length-raised n zero t = refl
length-raised n (suc k) t =
    length-append (take (suc k) t) (map to_ascii_uppercase (take n (drop (suc k) t)) ++ drop (suc k + n) t)
    ∙ ap (λ m. length (take (suc k) t) + m)
    (cc (
      length-append (map to_ascii_uppercase (take n (drop (suc k) t))) (drop (suc k + n) t),
      length-map (take n (drop (suc k) t)) to_ascii_uppercase,
      length-append (take n (drop (suc k) t)) (drop (suc k + n) t),
      drop-drop n (suc k) t,
      take-append-drop n (drop (suc k) t),
    ))
    ∙ sym (length-append (take (suc k) t) (drop (suc k) t)) ∙ ap length (take-append-drop (suc k) t)

pub front_text-append : (s r : ℕ) (t u : Text) → s < length t → r + 1 < length t
    → front_text s r (t ++ u) ≡ front_text s r t ++ lower u
unfolding lower
front_text-append s r t u a b = grind (arith, length-lower, map-append, raised-append, length-raised)

-- ---- what is read

-- the front is passed, and its words are where they are said to be
pub record ReadsFront (l : Cursor) (o : Option Cursor) (s r : ℕ) : Type 0 where
  pub passed : IsAfter l o (front_pieces (front_of (pieces_left l)))
  pub rest : after_region (pieces_left l) ≡ pieces_of_next o
  pub script : l.at ≡ 0 → s ≡ script_at (piece_left l) (front_of (pieces_left l)).script
  pub region : l.at ≡ 0 →
      r ≡ region_at (piece_left l) (front_of (pieces_left l)).script (front_of (pieces_left l)).region

next_is : (l : Cursor) (o : Option Cursor) → IsAfter l o (front_pieces (front_of (pieces_left l))) →
    after_region (pieces_left l) ≡ pieces_of_next o
    → IsAfterFront l o
next_is l None a e = a
next_is l (Some m) a e = (a, sym e)

pub front_read : (l m : Cursor) (all : Bool) (s r : ℕ) →
    IsWord (Language languages) (piece_left l)
    → ReadsFront l (unless_end all m) s r
    → IsFrontRead l m (record { is_all = all; end = end_of l (unless_end all m); script = s; region = r })
unfolding front_of
front_read l m all s r language f =
    let o = unless_end all m in
    let ps = pieces_left l in
    let words = front_pieces (front_of ps) in
    let i = front_of ps in
    let script = take_first_passes (is_word Script) (rest_of ps) in
    let region = take_first_passes (is_word Region) (after_script ps) in
    let inside = after_inside l words o f.passed in
    let text : l.at ≡ 0 → take (end_of l o) (whole_text l) ≡ join words =
    after_text l words o f.passed (λ e. cc) in
    record {
      next = next_is l o f.passed f.rest;
      end = after_end l words o f.passed;
      inside = inside;
      text = text;
      printed = grind (arith, printed_part);
      within = λ first.
          let long = languages_table.least _ (length-language languages (piece_left l) language) in
          let both = placed (piece_left l) i.script i.region long script region in
          grind (arith, length-take-le, length_text);
    }

-- a language alone
pub front_alone : (l : Cursor) → pieces_left l ≡ piece_left l ∷ [] → ReadsFront l None 0 0
unfolding front_of
front_alone l one = grind arith

-- where a piece begins, if others were passed from the beginning on
past_at : {l m : Cursor} {ps : List Text} → IsPast l m ps → ps ≢ [] → l.at ≡ 0 →
    m.at ≡ suc (length (join ps))
past_at {l} {m} {ps} p some first = grind (arith, length_rest, length-append)

module _ {l m : Cursor} (language : IsWord (Language languages) (piece_left l))
    (next : IsNextPiece l m)
    (b : Bool) (is : b ≡ is_word Script (piece_left m)) (s : ℕ) (at : s ≡ cond b m.at 0) where
  abbrev script : Option Text
  script = take_first (is_word Script) (pieces_left m)

  abbrev region : Option Cursor → Option Text
  region third = take_first (is_word Region) (pieces_of_next third)

  begun : IsPast l m (piece_left l ∷ [])
  begun = past_first (short_language (piece_left l) language) next

  script_is : (front_of (pieces_left l)).script ≡ script
  unfolding front_of
  script_is = ap (λ ps. take_first (is_word Script) (rest_of ps)) next.pieces

  script_place : l.at ≡ 0 → s ≡ script_at (piece_left l) (front_of (pieces_left l)).script
  script_place first = grind (arith, script_is, next_at, took, took_none)

  module _ (third : Option Cursor) (st : Steps Script l m third (piece_left l ∷ [])) where
    region_is : (front_of (pieces_left l)).region ≡ region third
    unfolding front_of
    region_is = search

    after_is : after_region (pieces_left l) ≡ skip_first (is_word Region) (pieces_of_next third)
    after_is = search

    words_are : front_pieces (front_of (pieces_left l))
        ≡ piece_left l ∷ (option_to_list script ++ option_to_list (region third))
    unfolding front_of
    words_are = λ j. piece_left l ∷ (option_to_list (script_is j) ++ option_to_list (region_is j))

  -- a script is the last piece
  pub front_to_script : IsOnePast b m None → ReadsFront l None s 0
  front_to_script one =
      let st = step Script tt begun b is None one in
      record {
        passed = cc (st.passed, append-nil (option_to_list script), words_are None st);
        rest = after_is None st;
        script = script_place;
        region =
            λ _. ap (region_at (piece_left l) (front_of (pieces_left l)).script) (sym (region_is None st));
      }

  module _ (n : Cursor) (one : IsOnePast b m (Some n)) where
    first_step : Steps Script l m (Some n) (piece_left l ∷ [])
    first_step = step Script tt begun b is (Some n) one

    module _ (c : Bool) (fits : c ≡ is_word Region (piece_left n)) where
      region_place : (r : ℕ) → r ≡ cond (c && (n.piece_length == 2)) n.at 0 → l.at ≡ 0
          → r ≡ region_at (piece_left l) (front_of (pieces_left l)).script (front_of (pieces_left l)).region
      region_place r place first = by c fits place
          ∙ (λ j. region_at (piece_left l) (sym script_is j) (sym (region_is (Some n) first_step) j))
        where
          there : n.at ≡ suc (length (join (piece_left l ∷ option_to_list script)))
          there = past_at first_step.passed (λ e. cc) first

          by : (c : Bool) → c ≡ is_word Region (piece_left n) → r ≡ cond (c && (n.piece_length == 2)) n.at 0 →
              r ≡ region_at (piece_left l) script (region (Some n))
          by true e p =
              let long : n.piece_length ≡ length (piece_left n) =
              length_piece n (short_word Region tt (piece_left n) (sym e)) in
              p ∙ (λ j. cond (long j == 2) (there j) 0)
              ∙ ap (region_at (piece_left l) script) (sym (took Region (cursor.bytes_left n) (sym e)))
          by false e p =
              grind (arith, took_none)

      -- a region is passed, if there is one
      pub front_to_region : (r : ℕ) → r ≡ cond (c && (n.piece_length == 2)) n.at 0 → (o : Option Cursor) →
          IsOnePast c n o → ReadsFront l o s r
      front_to_region r place o last =
          let st = step Region tt first_step.passed c fits o last in
          let words =
          append_assoc (piece_left l ∷ []) (option_to_list script) (option_to_list (region (Some n)))
          ∙ sym (words_are (Some n) first_step) in
          grind (arith, after_is, first_step, script_place, region_place)
