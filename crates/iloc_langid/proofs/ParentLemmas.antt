-- The fallback chain: the last of a set taken out, one part fewer, and the end of the chain.
use Rattle.std.proofs.Common.{◌≡◌, ℕ, zero, suc, ◌+◌, ◌-◌, ◌<◌, ◌≤◌, Bool, true, false, not, List, [], ◌∷◌, ◌++◌, length, take, get_or, filter, refl, sym, ap, ◌∙◌, subst, arith, Option, Some, None, option_to_list, inl, inr, append_assoc, append-nil}
use Rattle.std.specs.Prelude.{codes, if◌then◌else◌}
use Rattle.std.specs.List.{AllByRecursion}
use Rattle.std.specs.Option.{is_some}
use Rattle.std.specs.declared.cmp.Ordering.TheVariants.{Less}
use Rattle.iloc_spec_grammar.specs.Syntax.{Text, Identifier, identifier_pieces, languages, is_word, lower, word_cmp, is_same}
use Rattle.iloc_spec_grammar.specs.Values.{StrictlyAscends, IsIdentifierValue}
use Rattle.iloc_spec_grammar.proofs.MapLaws.{word_cmp_total, same_itself, same_is}
use Rattle.iloc_langid.specs.Unknown.{unknown_identifier}
use Rattle.iloc_langid.specs.Parents.{but_last, is_unknown_language, parent_of, part_count, after_steps, LacksLastPart}

-- the last of an ascending list

last_holds : (P : Text → Type 0) (fs : List Text) (x : Text) → AllByRecursion P (fs ++ x ∷ []) → P x
last_holds P [] x h = h.0
last_holds P (f ∷ fs) x h = last_holds P fs x h.1

other_below : (f x : Text) → word_cmp f x ≡ Less → is_same x f ≡ false
other_below f x h = rw (word_cmp_total.antisymm x f, h) refl

module _ (x : Text) where
  filtered : (fs : List Text) → StrictlyAscends word_cmp (fs ++ x ∷ []) →
      filter (λ w. not (is_same x w)) (fs ++ x ∷ []) ≡ fs
  filtered [] s = rw (same_itself x) refl
  filtered (f ∷ fs) s = rw (other_below f x (last_holds (λ y. word_cmp f y ≡ Less) fs x s.0))
      (ap (λ ws. f ∷ ws) (filtered fs s.1))

-- the items before the last
abbrev front : {X : Type 0} → X → List X → List X
front x xs = take (length xs) (x ∷ xs)

split_last : {X : Type 0} (w : X) (ws : List X) (x : X) → x ≡ get_or (w ∷ ws) (length ws) x →
    w ∷ ws ≡ front w ws ++ x ∷ []
split_last w [] x e = ap (λ v. v ∷ []) (sym e)
split_last w (v ∷ vs) x e = grind (arith, split_last v vs x e)

module _ (x w : Text) (ws : List Text) (is : x ≡ get_or (w ∷ ws) (length ws) x) where
  without_last : StrictlyAscends word_cmp (w ∷ ws) → filter (λ v. not (is_same x v)) (w ∷ ws) ≡ front w ws
  without_last s = ap (filter (λ v. not (is_same x v))) (split_last w ws x is)
      ∙ filtered x (front w ws) (subst (StrictlyAscends word_cmp) (split_last w ws x is) s)

-- what taking out the last of a set leaves
pub taken_out : (slice old new : List Text) (x : Text) → slice ≡ old → StrictlyAscends word_cmp old
    → 0 < length slice → x ≡ get_or slice (length slice - 1) x → new ≡ filter (λ v. not (is_same x v)) old →
    but_last old ≡ Some new
taken_out slice old new x same s some is left = grind (arith, without_last)

-- parents

pub known_language : (w : Text) → (w ≡ codes "und" → false ≡ true) → is_unknown_language w ≡ false
known_language w h = grind (arith, same_is)

pub of_some : {X : Type 0} {x y : X} → Some x ≡ Some y → x ≡ y
of_some e = cc

-- what holds of a parent in each case holds of all
module _ (P : Identifier → Identifier → Type 0)
    (variants : (l : Text) (s r : Option Text) (v : Text) (vs : List Text)
    → P (record { language = l; script = s; region = r; variants = v ∷ vs })
    (record { language = l; script = s; region = r; variants = front v vs }))
    (region : (l : Text) (s : Option Text) (r : Text)
    → P (record { language = l; script = s; region = Some r; variants = [] })
    (record { language = l; script = s; region = None; variants = [] }))
    (script : (l s : Text)
    → P (record { language = l; script = Some s; region = None; variants = [] })
    (record { language = l; script = None; region = None; variants = [] }))
    (language : (l : Text) → is_unknown_language l ≡ false
    → P (record { language = l; script = None; region = None; variants = [] }) unknown_identifier) where
  at_language : (p : Identifier) (l : Text) (b : Bool) → is_unknown_language l ≡ b
      → (if b then None else Some unknown_identifier) ≡ Some p
      → P (record { language = l; script = None; region = None; variants = [] }) p
  at_language p l b h k = grind arith

  by_parent : (i p : Identifier) → parent_of i ≡ Some p → P i p
  by_parent i p e = grind arith

-- each parent has one part fewer

front_length : {X : Type 0} (x : X) (xs : List X) → length (front x xs) ≡ length xs
front_length x [] = refl
front_length x (y ∷ ys) = ap suc (front_length y ys)

pub one_fewer : (i p : Identifier) → parent_of i ≡ Some p → part_count i ≡ part_count p + 1
one_fewer = grind (arith, front_length)

-- the chain ends

at_unknown : (l : Text) (b : Bool) → is_unknown_language l ≡ b
    → (if b then None else Some unknown_identifier) ≡ None → is_unknown_language l ≡ true
at_unknown l true h e = h
at_unknown l false h e = cc

at_end : (l : Text) (s r : Option Text) (vs : List Text)
    → parent_of (record { language = l; script = s; region = r; variants = vs }) ≡ None
    → record { language = l; script = s; region = r; variants = vs } ≡ unknown_identifier
at_end l s r (v ∷ vs) e = cc
at_end l s (Some r) [] e = cc
at_end l (Some s) None [] e = cc
at_end l None None [] e = ap (λ w. record { language = w; script = None; region = None; variants = [] })
    (same_is l (codes "und") (at_unknown l (is_unknown_language l) refl e))

only_unknown : (i : Identifier) → parent_of i ≡ None → i ≡ unknown_identifier
only_unknown i e = at_end i.language i.script i.region i.variants e

pub no_parent : parent_of unknown_identifier ≡ None
no_parent = refl

none_left : part_count unknown_identifier ≡ 0
none_left = refl

-- an identifier without a parent ends the chain, and another goes on from its parent

nothing_left : (i : Identifier) (o : Option Identifier) → part_count i ≡ 0 → parent_of i ≡ o →
    i ≡ unknown_identifier
nothing_left i o h k = grind (arith, only_unknown)

goes_on : (n : ℕ) (i : Identifier) → part_count i ≡ suc n → (o : Option Identifier) → parent_of i ≡ o
    → ((p : Identifier) → part_count p ≡ n → after_steps parent_of n p ≡ Some unknown_identifier)
    → after_steps parent_of (suc n) i ≡ Some unknown_identifier
goes_on n i h None e next = grind arith
goes_on n i h (Some p) e next = grind (arith, one_fewer)

pub chain_ends : (n : ℕ) (i : Identifier) → part_count i ≡ n →
    after_steps parent_of n i ≡ Some unknown_identifier
chain_ends zero i h = ap Some (nothing_left i (parent_of i) h refl)
chain_ends (suc n) i h = goes_on n i h (parent_of i) refl (λ p. chain_ends n p)

pub few_parts : (i : Identifier) → part_count i ≤ length (identifier_pieces i)
few_parts i = grind arith

-- what a parent lacks

last_of : {X : Type 0} (x : X) (xs : List X) → (y : X) × (x ∷ xs ≡ front x xs ++ y ∷ [])
last_of x [] = (x, refl)
last_of x (y ∷ ys) = grind (arith, last_of y ys)

pub lacks_last : (i p : Identifier) → parent_of i ≡ Some p → LacksLastPart i p
lacks_last = by_parent LacksLastPart
    (λ l s r v vs. let last = last_of v vs in
    inl (last.0, ap (λ ws. l ∷ (option_to_list s ++ (option_to_list r ++ ws))) last.1 ∙ simp append_assoc))
    (λ l s r. inl (r, simp append-nil)) (λ l s. inl (s, refl)) (λ l h. inr (refl, refl))

-- a parent is an identifier

all_front : (P : Text → Type 0) (w : Text) (ws : List Text) → AllByRecursion P (w ∷ ws) →
    AllByRecursion P (front w ws)
all_front P w [] h = tt
all_front P w (v ∷ vs) h = (h.0, all_front P v vs h.1)

front_ascends : (w : Text) (ws : List Text) → StrictlyAscends word_cmp (w ∷ ws) →
    StrictlyAscends word_cmp (front w ws)
front_ascends w [] h = tt
front_ascends w (v ∷ vs) h = (all_front (λ y. word_cmp w y ≡ Less) v vs h.0, front_ascends v vs h.1)

unknown_value : IsIdentifierValue languages unknown_identifier
unfolding is_word languages lower
unknown_value = grind arith

pub parent_value : (i p : Identifier) → IsIdentifierValue languages i → parent_of i ≡ Some p →
    IsIdentifierValue languages p
parent_value i p v e = grind (arith, all_front, front_ascends, unknown_value)

-- what leaving the language answers
pub language_left : (l w : Text) (s r : Option Text) (vs ws : List Text) → but_last vs ≡ None →
    ws ≡ vs
    → false ≡ is_some r → false ≡ is_some s → (l ≡ codes "und" → false ≡ true) → w ≡ codes "und"
    → parent_of (record { language = l; script = s; region = r; variants = vs })
    ≡ Some (record { language = w; script = s; region = r; variants = ws })
language_left l w s r vs ws h k e f g d = grind (arith, known_language)
