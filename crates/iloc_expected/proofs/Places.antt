-- Where the piece after one more stands.
use Rattle.std.proofs.Common.{◌≡◌, Bool, ◌==◌, ◌||◌, List, [], ◌∷◌, ◌++◌, length, slice_index, Option, Some, None, if◌then◌else◌, refl, sym, ap, ◌∙◌, append-nil, inl, inr, arith}
use Rattle.std.specs.List.{list_any}
use Rattle.std.specs.Char.{to_ascii_lowercase}
use Rattle.std.proofs.lemmas.Bool.{cases_Bool}
use Rattle.iloc_spec_grammar.specs.Syntax.{Text, Block, code_x, blocks, front, is_one_byte}
use Rattle.iloc_spec_grammar.proofs.Singletons.{two_more}
use Rattle.iloc_expected.specs.Kinds.{Place, AtBeginning, InIdentifier, InExtension, last_block, place_in, place_after}

-- ---- the last block

abbrev or_else : Option Block → Block → Option Block
or_else None b = Some b
or_else (Some x) b = Some x

some_last : (b : Block) (bs : List Block) → (x : Block) × (last_block (b ∷ bs) ≡ Some x)
some_last b [] = (b, refl)
some_last b (c ∷ bs) = some_last c bs

last_cons : (b : Block) (bs : List Block) → last_block (b ∷ bs) ≡ or_else (last_block bs) b
last_cons b [] = refl
last_cons b (c ∷ bs) = let s = some_last c bs in s.1 ∙ ap (λ o. or_else o b) (sym s.1)

-- the last block with one piece more
abbrev block_more : Option Block → Text → Option Block
block_more None p = if is_one_byte p then Some (slice_index p 0, []) else None
block_more (Some (c, qs)) p = if to_ascii_lowercase c == code_x then Some (c, qs ++ (p ∷ [])) else
    if is_one_byte p then Some (slice_index p 0, []) else Some (c, qs ++ (p ∷ []))

-- no block begins among the pieces
none_front : (ps qs : List Text) → last_block (blocks ps) ≡ None → front (ps ++ qs) ≡ ps ++ front qs
none_front [] qs h = refl
none_front ([] ∷ ps) qs h = ap (λ l. [] ∷ l) (none_front ps qs h)
none_front ((c ∷ []) ∷ ps) qs h = elim (cases_Bool (to_ascii_lowercase c == code_x)) [
  | inl e ↦ let k : Some (c, ps) ≡ None = rw e at h in cc
  | inr e ↦ let k = rw e at h in let s = some_last (c, front ps) (blocks ps) in
      let n : Some s.0 ≡ None = sym s.1 ∙ k in cc
]
none_front ((c ∷ d ∷ p) ∷ ps) qs h = grind (arith, two_more, none_front ps qs h)

whole : (ps : List Text) → last_block (blocks ps) ≡ None → front ps ≡ ps
whole ps h = ap front (sym (append-nil ps)) ∙ none_front ps [] h ∙ append-nil ps

last_more : (ps : List Text) (p : Text) →
    last_block (blocks (ps ++ (p ∷ []))) ≡ block_more (last_block (blocks ps)) p
last_more [] [] = refl
last_more [] (c ∷ []) = grind (arith, cases_Bool)
last_more [] (c ∷ d ∷ p) = rw (two_more (length p)) refl
last_more ([] ∷ ps) p = last_more ps p
last_more ((c ∷ d ∷ q) ∷ ps) p = last_more ps p
last_more ((c ∷ []) ∷ ps) p = grind (arith, cases_Bool, last_cons, none_front, whole, last_more ps p)

-- ---- the place

-- where the piece after p stands
abbrev pub place_more : Place → Text → Place
place_more AtBeginning p = InIdentifier
place_more InIdentifier p =
    if is_one_byte p then InExtension (to_ascii_lowercase (slice_index p 0)) [] else InIdentifier
place_more (InExtension c qs) p = if c == code_x then InExtension c (qs ++ (p ∷ [])) else
    if is_one_byte p then InExtension (to_ascii_lowercase (slice_index p 0)) [] else
    InExtension c (qs ++ (p ∷ []))

place_in_more : (o : Option Block) (p : Text) → place_in (block_more o p) ≡ place_more (place_in o) p
place_in_more o p = grind (arith, cases_Bool)

pub place_of_more : (ps : List Text) (p : Text) → place_after (ps ++ (p ∷ [])) ≡ place_more (place_after ps) p
place_of_more ps p = grind (arith, last_more, place_in_more)

-- ---- whether one of the pieces passes

pub any_more : (f : Text → Bool) (qs : List Text) (p : Text) →
    list_any f (qs ++ (p ∷ [])) ≡ (list_any f qs || f p)
any_more f [] p = grind (arith, cases_Bool)
any_more f (q ∷ qs) p = grind (arith, cases_Bool, any_more f qs p)
