-- The words of a plain identifier.
use Rattle.std.proofs.Common.{◌≡◌, ◌≢◌, inl, inr, ℕ, zero, suc, ◌+◌, ◌-◌, ◌%◌, ◌<◌, ◌≤◌, ◌==◌, Bool, true, false, not, ◌||◌, ◌&&◌, List, [], ◌∷◌, ◌++◌, length, map, get_or, take, drop, replicate, Fits, w8, refl, sym, ap, ◌∙◌, subst, arith, IfSome, option_map, eqb, leb}
use borrow.Author.Tests.{eqb-true}
use Rattle.std.specs.Int.Bits.{and_zero_r}
use Rattle.std.specs.Cmp.{first_so, second_so}
use Rattle.std.specs.Char.{is_ascii_alphabetic, is_ascii_digit, to_ascii_lowercase, to_ascii_uppercase}
use Rattle.std.proofs.lemmas.Bool.{agree_below, cases_lt, le-leb}
use Rattle.std.proofs.lemmas.List.{get_or_past, get_or_append_left, get_or-append-add, get_or-drop, drop-drop, length-take-le, length-drop}
use Rattle.std.proofs.Math.ListN.{get_or-map}
use Rattle.std.proofs.Math.Seq.{drop-cons, take-add}
use Rattle.std.proofs.lemmas.Simd.{Each1-get_or, get_or-replicate}
use lib.Lanes.{Each1}
use Rattle.iloc_spec_grammar.specs.Syntax.{Text, pieces, join, Language, Script, Region, is_word, IsWord, lower, upper, title, languages, HasWords}
use Rattle.iloc_spec_grammar.specs.Meaning.{IdentifierMeans, normal_identifier}
use Rattle.iloc_spec_grammar.specs.Tree.{spelled_identifier}
use Rattle.iloc_spec_grammar.specs.Values.{identifier_text}
use Rattle.iloc_spec_grammar.proofs.IdentifierTexts.{pieces-identifier_text, identifier_means_value}
use Rattle.iloc_pieces.specs.PlainShape.{script_len, region_len, part, script_at, region_at, plain_identifier, lower_letter, upper_letter, hyphen, digit, any_byte, no_byte, above, row}
use Rattle.iloc_pieces.specs.Plain.{ShapeOf, IsShape, MayHaveShape, IsPlain, AreAboveLeast, AreAllowed, AreNormal, place_at}
use Rattle.iloc_pieces.specs.declared.tail.Place.{Place}
use Rattle.iloc_pieces.specs.declared.tail.Tail.{Tail}
use Rattle.iloc_pieces.proofs.LaneLemmas.{of_byte}
use Rattle.iloc_pieces.proofs.RunWords.{all_pass}

-- ---- parts of a text

part_next : (k f j : ℕ) (x : Text) → f + j < length x →
    part (suc k) (f + j) x ≡ get_or x (f + j) 0 ∷ part k (f + (j + 1)) x
part_next k f j x l = let next : suc (f + j) ≡ f + (j + 1) = omega arith in grind (arith, drop-cons, get_or)

pub part_two : (f j : ℕ) (x : Text) → f + (j + 2) ≤ length x →
    part 2 (f + j) x ≡ get_or x (f + j) 0 ∷ get_or x (f + (j + 1)) 0 ∷ []
part_two f j x l =
    part_next 1 f j x (omega arith) ∙ ap (λ r. get_or x (f + j) 0 ∷ r) (part_next 0 f (j + 1) x (omega arith))

pub part_three : (f j : ℕ) (x : Text) → f + (j + 3) ≤ length x →
    part 3 (f + j) x ≡ get_or x (f + j) 0 ∷ get_or x (f + (j + 1)) 0 ∷ get_or x (f + (j + 1 + 1)) 0 ∷ []
part_three f j x l =
    part_next 2 f j x (omega arith) ∙ ap (λ r. get_or x (f + j) 0 ∷ r) (part_two f (j + 1) x (omega arith))

part_four : (f j : ℕ) (x : Text) → f + (j + 4) ≤ length x →
    part 4 (f + j) x
    ≡ get_or x (f + j) 0 ∷ get_or x (f + (j + 1)) 0 ∷ get_or x (f + (j + 1 + 1)) 0
    ∷ get_or x (f + (j + 1 + 1 + 1)) 0 ∷ []
part_four f j x l =
    part_next 3 f j x (omega arith) ∙ ap (λ r. get_or x (f + j) 0 ∷ r) (part_three f (j + 1) x (omega arith))

-- a hyphen and what follows it
at_hyphen : (a k : ℕ) (x : Text) → a < length x → get_or x a 0 ≡ 45 →
    take (a + suc k) x ≡ take a x ++ 45 ∷ take k (drop (a + 1) x)
at_hyphen a k x l e = grind (arith, take-add, drop-cons)

two_hyphens : (f k : ℕ) (x : Text) → f + 5 < length x → get_or x f 0 ≡ 45 → get_or x (f + 5) 0 ≡ 45
    → take (f + suc (4 + suc k)) x ≡ take f x ++ 45 ∷ (part 4 (f + 1) x ++ 45 ∷ part k (f + 6) x)
two_hyphens f k x l e h =
    let y = drop (f + 1) x in
    let here : f + 1 + 4 ≡ f + 5 = omega arith in
    let there : f + 1 + 5 ≡ f + 6 = omega arith in
    let second = at_hyphen 4 k y (omega (arith, length-drop (f + 1) x))
    (get_or-drop (f + 1) x 4 0 ∙ ap (λ m. get_or x m 0) here ∙ h) in
    at_hyphen f (4 + suc k) x (omega arith) e
    ∙ ap (λ r. take f x ++ 45 ∷ r)
    (second ∙ ap (λ r. take 4 y ++ 45 ∷ take k r) (drop-drop 5 (f + 1) x ∙ ap (λ m. drop m x) there))

-- where hyphens stand
abbrev Hyphens : ℕ → Bool → ℕ → Text → Type 0
Hyphens f false zero x = Unit {0}
Hyphens f false (suc r) x = get_or x f 0 ≡ 45
Hyphens f true zero x = get_or x f 0 ≡ 45
Hyphens f true (suc r) x = (get_or x f 0 ≡ 45) × (get_or x (f + 5) 0 ≡ 45)

-- the text of the parts is the text
text_is : {ps : List Place} (f : ℕ) (s : Bool) (r : ℕ) (x : Text) → ShapeOf s r ps →
    f + (script_len s + region_len r) ≤ length x → Hyphens f s r x
    → take (f + (script_len s + region_len r)) x ≡ identifier_text (plain_identifier f s r x)
unfolding identifier_text plain_identifier join
text_is f _ _ x ShapeOf.language l h = grind arith
text_is f _ _ x ShapeOf.region l h = at_hyphen f 2 x (omega arith) h
text_is f _ _ x ShapeOf.code l h = at_hyphen f 3 x (omega arith) h
text_is f _ _ x ShapeOf.script l h = at_hyphen f 4 x (omega arith) h
text_is f _ _ x ShapeOf.script_region l h = two_hyphens f 2 x (omega arith) h.0 h.1
text_is f _ _ x ShapeOf.script_code l h = two_hyphens f 3 x (omega arith) h.0 h.1

-- ---- words of parts

map_front : (g : ℕ → ℕ) (k : ℕ) (v w : Text) → k ≤ length v → k ≤ length w →
    ((i : ℕ) → i < k → get_or w i 0 ≡ g (get_or v i 0)) → take k w ≡ map g (take k v)
map_front g zero v w l m h = refl
map_front g (suc k) [] w l m h = absurd (omega arith)
map_front g (suc k) (b ∷ v) [] l m h = absurd (omega arith)
map_front g (suc k) (b ∷ v) (c ∷ w) l m h =
    let first : c ≡ g b = h 0 (omega arith) in
    λ i. first i ∷ map_front g k v w (omega arith) (omega arith) (λ j n. h (suc j) (omega arith)) i

script_of : (a b c d : ℕ) → is_ascii_alphabetic a ≡ true → is_ascii_alphabetic b ≡ true →
    is_ascii_alphabetic c ≡ true → is_ascii_alphabetic d ≡ true → IsWord Script (a ∷ b ∷ c ∷ d ∷ [])
unfolding is_word
script_of a b c d h k l m = grind arith

region_of : (a b : ℕ) → is_ascii_alphabetic a ≡ true → is_ascii_alphabetic b ≡ true →
    IsWord Region (a ∷ b ∷ [])
unfolding is_word
region_of a b h k = grind arith

code_of : (a b c : ℕ) → is_ascii_digit a ≡ true → is_ascii_digit b ≡ true → is_ascii_digit c ≡ true →
    IsWord Region (a ∷ b ∷ c ∷ [])
unfolding is_word
code_of a b c h k l = grind arith

-- the byte b may stand at the place, and c is there in the normal text
record Stands (p : Place) (b c : ℕ) : Type 0 where
  within : above p b ≤ p.span
  normal : c ≡ (above p b + p.normal) % 256

-- what they are: by a table of all bytes
stands_as : (p : Place) (q : ℕ → Bool) (g : ℕ → ℕ) →
    agree_below (λ b. not (leb (above p b) p.span) || (q b && eqb ((above p b + p.normal) % 256) (g b)))
    (λ _. true) 256
    ≡ true
    → (b c : ℕ) → b < 256 → Stands p b c → (q b ≡ true) × (c ≡ g b)
stands_as p q g all b c l h =
    let both = of_byte (λ b. leb (above p b) p.span) (λ b. q b && eqb ((above p b + p.normal) % 256) (g b))
    all b l (le-leb (above p b) p.span h.within) in
    (first_so _ _ both, h.normal ∙ eqb-true _ (g b) (second_so _ _ both))

none_stands : (b c : ℕ) → Stands no_byte b c → ⊥
none_stands b c h = omega (arith, h.within, and_zero_r b)

-- each byte of v stands at its place, after a language of f bytes, and that of w is there in the normal text
record IsFound (v w : Text) (f : ℕ) (ps : List Place) : Type 0 where
  lanes : (length v ≡ 16) × Each1 (Fits w8) v
  long : length w ≡ 16
  few : f ≤ 8
  language : languages f ≡ true
  first : (i : ℕ) → i < f → Stands lower_letter (get_or v i 0) (get_or w i 0)
  rest : (j : ℕ) → f + j < 16 → Stands (get_or ps j any_byte) (get_or v (f + j) 0) (get_or w (f + j) 0)

-- the parts are words, and those in their place are their normal text
pub record AreParts (v w : Text) (f : ℕ) (s : Bool) (r : ℕ) : Type 0 where
  pub language : IsWord (Language languages) (take f v)
  pub language_case : take f w ≡ lower (take f v)
  pub script : IfSome (script_at s (f + 1) v) (IsWord Script)
  pub script_case : script_at s (f + 1) w ≡ option_map title (script_at s (f + 1) v)
  pub region : IfSome (region_at r (f + (script_len s + 1)) v) (IsWord Region)
  pub region_case : region_at r (f + (script_len s + 1)) w
      ≡ option_map upper (region_at r (f + (script_len s + 1)) v)
  pub hyphens : Hyphens f s r v
  pub hyphens_kept : Hyphens f s r w

module _ {v w : Text} {f : ℕ} {ps : List Place} (h : IsFound v w f ps) where
  byte : (i : ℕ) → i < 16 → get_or v i 0 < 256
  byte i l = grind (arith, Each1-get_or)

  the_language : IsWord (Language languages) (take f v) × (take f w ≡ lower (take f v))
  unfolding is_word lower
  the_language =
      let long = h.lanes.0 in
      let few = h.few in
      let size : length (take f v) ≡ f = length-take-le f v (omega arith) in
      let at : (i : ℕ) → i < f →
      (is_ascii_alphabetic (get_or v i 0) ≡ true) × (get_or w i 0 ≡ to_ascii_lowercase (get_or v i 0)) =
      λ i l. stands_as lower_letter is_ascii_alphabetic to_ascii_lowercase refl _ _ (byte i (omega arith))
      (h.first i l) in grind (arith, all_pass, map_front)

  module _ (j : ℕ) (l : f + j < 16) where
    at_place : (p : Place) → get_or ps j any_byte ≡ p → Stands p (get_or v (f + j) 0) (get_or w (f + j) 0)
    at_place p e = subst (λ (q : Place). Stands q (get_or v (f + j) 0) (get_or w (f + j) 0)) e (h.rest j l)

    lower_at : get_or ps j any_byte ≡ lower_letter →
        (is_ascii_alphabetic (get_or v (f + j) 0) ≡ true)
        × (get_or w (f + j) 0 ≡ to_ascii_lowercase (get_or v (f + j) 0))
    lower_at e = stands_as lower_letter is_ascii_alphabetic to_ascii_lowercase refl _ _ (byte (f + j) l)
        (at_place lower_letter e)

    upper_at : get_or ps j any_byte ≡ upper_letter →
        (is_ascii_alphabetic (get_or v (f + j) 0) ≡ true)
        × (get_or w (f + j) 0 ≡ to_ascii_uppercase (get_or v (f + j) 0))
    upper_at e = stands_as upper_letter is_ascii_alphabetic to_ascii_uppercase refl _ _ (byte (f + j) l)
        (at_place upper_letter e)

    digit_at : get_or ps j any_byte ≡ digit →
        (is_ascii_digit (get_or v (f + j) 0) ≡ true)
        × (get_or w (f + j) 0 ≡ to_ascii_uppercase (get_or v (f + j) 0))
    digit_at e =
        stands_as digit is_ascii_digit to_ascii_uppercase refl _ _ (byte (f + j) l) (at_place digit e)

    hyphen_at : get_or ps j any_byte ≡ hyphen → (get_or v (f + j) 0 ≡ 45) × (get_or w (f + j) 0 ≡ 45)
    hyphen_at e =
        let at = stands_as hyphen (λ b. b == 45) (λ _. 45) refl _ _ (byte (f + j) l) (at_place hyphen e) in
        (eqb-true _ 45 at.0, at.1)

  first_hyphen : get_or ps 0 any_byte ≡ hyphen → f < 16 → (get_or v f 0 ≡ 45) × (get_or w f 0 ≡ 45)
  first_hyphen e l = grind (arith, hyphen_at, get_or)

  the_script : f + 5 ≤ 16 → get_or ps 1 any_byte ≡ upper_letter → get_or ps 2 any_byte ≡ lower_letter →
      get_or ps 3 any_byte ≡ lower_letter → get_or ps 4 any_byte ≡ lower_letter
      → IsWord Script (part 4 (f + 1) v) × (part 4 (f + 1) w ≡ title (part 4 (f + 1) v))
  unfolding lower upper title
  the_script l ea eb ec ed =
      let a = upper_at 1 (omega arith) ea in
      let b = lower_at 2 (omega arith) eb in
      let c = lower_at 3 (omega arith) ec in
      let d = lower_at 4 (omega arith) ed in
      grind (arith, part_four, script_of)

  the_region : (j : ℕ) → f + (j + 2) ≤ 16 → get_or ps j any_byte ≡ upper_letter →
      get_or ps (j + 1) any_byte ≡ upper_letter
      → IsWord Region (part 2 (f + j) v) × (part 2 (f + j) w ≡ upper (part 2 (f + j) v))
  unfolding upper
  the_region j l ea eb =
      let a = upper_at j (omega arith) ea in
      let b = upper_at (j + 1) (omega arith) eb in
      grind (arith, part_two, region_of)

  the_code : (j : ℕ) → f + (j + 3) ≤ 16 → get_or ps j any_byte ≡ digit → get_or ps (j + 1) any_byte ≡ digit →
      get_or ps (j + 1 + 1) any_byte ≡ digit
      → IsWord Region (part 3 (f + j) v) × (part 3 (f + j) w ≡ upper (part 3 (f + j) v))
  unfolding upper
  the_code j l ea eb ec =
      let a = digit_at j (omega arith) ea in
      let b = digit_at (j + 1) (omega arith) eb in
      let c = digit_at (j + 1 + 1) (omega arith) ec in
      grind (arith, part_three, code_of)

-- the parts of each shape
parts_are : {v w : Text} {f : ℕ} {ps : List Place} (s : Bool) (r : ℕ) → ShapeOf s r ps →
    f + (script_len s + region_len r) ≤ 16 → IsFound v w f ps → AreParts v w f s r
parts_are _ _ ShapeOf.language l h = let (word, lowered) = the_language h in grind arith
parts_are _ _ ShapeOf.region l h =
    let (word, lowered) = the_language h in
    let at = first_hyphen h refl (omega arith) in
    let region = the_region h 1 (omega arith) refl refl in
    grind arith
parts_are _ _ ShapeOf.code l h =
    let (word, lowered) = the_language h in
    let at = first_hyphen h refl (omega arith) in
    let region = the_code h 1 (omega arith) refl refl refl in
    grind arith
parts_are _ _ ShapeOf.script l h =
    let (word, lowered) = the_language h in
    let at = first_hyphen h refl (omega arith) in
    let script = the_script h (omega arith) refl refl refl refl in
    grind arith
parts_are _ _ ShapeOf.script_region l h =
    let (word, lowered) = the_language h in
    let at = first_hyphen h refl (omega arith) in
    let script = the_script h (omega arith) refl refl refl refl in
    let region = the_region h 6 (omega arith) refl refl in
    let there = hyphen_at h 5 (omega arith) refl in
    grind arith
parts_are _ _ ShapeOf.script_code l h =
    let (word, lowered) = the_language h in
    let at = first_hyphen h refl (omega arith) in
    let script = the_script h (omega arith) refl refl refl refl in
    let region = the_code h 6 (omega arith) refl refl refl in
    let there = hyphen_at h 5 (omega arith) refl in
    grind arith

-- which are an identifier that means their normal text
has_words : {v w : Text} {f : ℕ} {s : Bool} {r : ℕ} → AreParts v w f s r →
    HasWords languages (spelled_identifier (plain_identifier f s r v))
unfolding plain_identifier
has_words p = grind arith

normal_is : {v w : Text} (f : ℕ) (s : Bool) (r : ℕ) → AreParts v w f s r →
    plain_identifier f s r w ≡ normal_identifier (spelled_identifier (plain_identifier f s r v))
unfolding plain_identifier
normal_is f s r p = grind arith

plain_means : {v w : Text} {f : ℕ} {ps : List Place} (s : Bool) (r : ℕ) → ShapeOf s r ps →
    f + (script_len s + region_len r) ≤ 16 → IsFound v w f ps
    → (m : IdentifierMeans languages (pieces (take (f + (script_len s + region_len r)) v))
    (plain_identifier f s r w))
    × (m.written.variants ≡ [])
unfolding plain_identifier identifier_text
plain_means {v} {w} {f} s r shape l h =
    let p = parts_are s r shape l h in (
      record {
        written = spelled_identifier (plain_identifier f s r v);
        grammatical = record { words = has_words p; different = tt };
        spelled = ap pieces (text_is f s r v shape (omega (arith, h.lanes.0)) p.hyphens)
            ∙ pieces-identifier_text (spelled_identifier (plain_identifier f s r v)) (has_words p);
        means = normal_is f s r p;
      },
      refl,
    )

plain_text : {v w : Text} {f : ℕ} {ps : List Place} (s : Bool) (r : ℕ) → ShapeOf s r ps →
    f + (script_len s + region_len r) ≤ 16 → IsFound v w f ps
    → take (f + (script_len s + region_len r)) w ≡ identifier_text (plain_identifier f s r w)
plain_text s r h k e = grind (arith, text_is, parts_are)

region_few : {ps : List Place} (s : Bool) (r : ℕ) → ShapeOf s r ps → (r ≤ 3) × (r ≢ 1)
region_few s r h = grind arith

-- ---- a row of the table

-- its places
placed : (m : ℕ) (t : Tail) (s : IsShape m t) (i : ℕ) → place_at t i ≡ get_or (row s.places) i any_byte
placed m t s i =
    let ps = row s.places in
    let mask : get_or t.mask i 0 ≡ (get_or ps i any_byte).mask =
    ap (λ l. get_or l i 0) s.mask ∙ get_or-map (λ p. p.mask) ps i any_byte in
    let least : get_or t.least i 0 ≡ (get_or ps i any_byte).least =
    ap (λ l. get_or l i 0) s.least ∙ get_or-map (λ p. p.least) ps i any_byte in
    let span : get_or t.span i 0 ≡ (get_or ps i any_byte).span =
    ap (λ l. get_or l i 0) s.span ∙ get_or-map (λ p. p.span) ps i any_byte in
    let normal : get_or t.normal i 0 ≡ (get_or ps i any_byte).normal =
    ap (λ l. get_or l i 0) s.normal ∙ get_or-map (λ p. p.normal) ps i any_byte in
    λ k. record { mask = mask k; least = least k; span = span k; normal = normal k }

-- past its end any byte may stand
past : (ps : List Place) (k j : ℕ) → get_or (ps ++ replicate k any_byte) j any_byte ≡ get_or ps j any_byte
past [] zero j = refl
past [] (suc k) zero = refl
past [] (suc k) (suc j) = past [] k j
past (p ∷ ps) k zero = refl
past (p ∷ ps) k (suc j) = past ps k j

language_place : (ps : List Place) (i : ℕ) → i < 8 → get_or (row ps) i any_byte ≡ lower_letter
language_place ps i l = grind (arith, get_or_append_left, get_or-replicate)

rest_place : (ps : List Place) (j : ℕ) → get_or (row ps) (8 + j) any_byte ≡ get_or ps j any_byte
rest_place ps j = grind (arith, get_or-append-add, past)

-- what is read of bytes v by a row of the table, and what stands in their place
pub record IsRead (v a w : Text) (f : ℕ) (t : Tail) : Type 0 where
  pub lanes : (length v ≡ 16) × Each1 (Fits w8) v
  pub some : 2 ≤ f
  pub few : f ≤ 8
  pub language : languages f ≡ true
  pub above : AreAboveLeast t f v a
  pub allowed : AreAllowed t f a
  pub long : length w ≡ 16
  pub normal : AreNormal t f a w

module _ {v a w : Text} {f : ℕ} {t : Tail} (h : IsRead v a w f t) where
  stand : (i : ℕ) → i < 16 → Stands (place_at t (8 - f + i)) (get_or v i 0) (get_or w i 0)
  stand i l = grind arith

  bytes_are : (i : ℕ) → get_or w i 0 < 256
  bytes_are i = grind (arith, cases_lt, get_or_past)

  -- a byte follows the language
  not_none : place_at t 8 ≡ no_byte → ⊥
  not_none e = grind (arith, stand, none_stands)

  found : (m : ℕ) (s : IsShape m t) → IsFound v w f s.places
  found m s = record {
    lanes = h.lanes;
    long = h.long;
    few = h.few;
    language = h.language;
    first = grind (arith, get_or, placed, language_place, stand);
    rest = λ j l. let there : 8 - f + (f + j) ≡ 8 + j = omega (arith, h.few) in
        subst (λ (p : Place). Stands p (get_or v (f + j) 0) (get_or w (f + j) 0))
        (placed m t s (8 - f + (f + j)) ∙ ap (λ n. get_or (row s.places) n any_byte) there
        ∙ rest_place s.places j) (stand (f + j) l);
  }

  pub read_is : (n m : ℕ) → MayHaveShape m t → f + m ≡ n → n ≤ 16 →
      IsPlain (take n v)
      (record { bytes = w; len = n; language = f; has_script = t.has_script; region = t.region })
  read_is n m (inl none) sum few = absurd (not_none none)
  read_is n m (inr s) sum few =
      let whole : f + (script_len t.has_script + region_len t.region) ≡ n = omega (arith, s.long) in
      let fits : f + (script_len t.has_script + region_len t.region) ≤ 16 = omega (arith, s.long) in
      let both : (m : IdentifierMeans languages (pieces (take n v))
      (plain_identifier f t.has_script t.region w))
      × (m.written.variants ≡ []) =
      subst
      (λ k. (m : IdentifierMeans languages (pieces (take k v)) (plain_identifier f t.has_script t.region w))
      × (m.written.variants ≡ [])) whole
      (plain_means t.has_script t.region s.shape fits (found m s)) in
      let means = both.0 in
      record {
        words = record {
          wide = h.long;
          bytes = bytes_are;
          long = whole;
          fits = few;
          some = h.some;
          language = h.few;
          region = (region_few t.has_script t.region s.shape).0;
          no_letter = (region_few t.has_script t.region s.shape).1;
          normal = subst (λ k. take k w ≡ identifier_text (plain_identifier f t.has_script t.region w)) whole
              (plain_text t.has_script t.region s.shape fits (found m s));
        };
        value = identifier_means_value _ _ means;
        means = means;
        no_variant = both.1;
        long = sym (length-take-le n v (omega (arith, h.lanes.0)));
      }
