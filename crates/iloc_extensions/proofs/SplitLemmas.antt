-- Where the others are cut, and the pieces of all parts.
use Rattle.std.proofs.Common.{◌≡◌, ℕ, suc, ◌+◌, ◌<◌, ◌≤◌, false, cond, List, [], ◌∷◌, ◌++◌, take, drop, flat_map, nat_le, refl, sym, ap, ◌∙◌, arith, append-nil}
use Rattle.std.proofs.lemmas.List.{take-append-drop}
use Rattle.std.proofs.lemmas.List.Concat.{flat_map-append}
use Rattle.iloc_spec_grammar.specs.Meaning.{Extensions}
use Rattle.iloc_spec_grammar.specs.Values.{before_above, other_spelling, transform_spelling, unicode_spelling, private_spelling, extensions_spelling}
use Rattle.iloc_writeable.specs.Pieces.{is_there}
use Rattle.iloc_spec_grammar.proofs.PartTexts.{spelling_around}
use Rattle.iloc_spec_grammar.specs.Syntax.{code_t, Text}

abbrev Others : Type 0
Others = List (ℕ × List Text)

-- how many stand before the first above `t`
pub count : Others → ℕ
count [] = 0
count (o ∷ os) = cond (nat_le o.0 code_t) (suc (count os)) 0

pub count_hit : (o : ℕ × List Text) (os : Others) → code_t < o.0 → count (o ∷ os) ≡ 0
unfolding count
count_hit o os h = grind (arith, count)

pub count_miss : (o : ℕ × List Text) (os : Others) → o.0 ≤ code_t → count (o ∷ os) ≡ count os + 1
unfolding count
count_miss o os h = grind (arith, count)

pub count_none : count [] ≡ 0
unfolding count
count_none = refl

-- what stands between the two parts stands before the first above `t`
pub split_there : (bs os : Others) → before_above bs os ≡ take (count os) os ++ (bs ++ drop (count os) os)
unfolding count
split_there bs [] = sym (append-nil bs)
split_there bs (o ∷ os) = grind (arith, count, split_there bs os)

-- the pieces of the parts, the others in two
pub parts_pieces : (e : Extensions) (before after : Others) (t u x : List Text) →
    ((bs : Others) → before_above bs e.others ≡ before ++ (bs ++ after)) →
    t ≡ transform_spelling e.transform → u ≡ unicode_spelling e.unicode → x ≡ private_spelling e.private
    → flat_map other_spelling before ++ (t ++ (u ++ (flat_map other_spelling after ++ x)))
    ≡ extensions_spelling e
parts_pieces e before after t u x others a b c = grind (arith, spelling_around)

-- those of the others alone, where no other part has one
pub others_alone : (e : Extensions) → [] ≡ unicode_spelling e.unicode → [] ≡ transform_spelling e.transform →
    [] ≡ private_spelling e.private → flat_map other_spelling e.others ≡ extensions_spelling e
others_alone e u t x =
    let n = count e.others in
    let before = take n e.others in
    let after = drop n e.others in
    ap (flat_map other_spelling) (sym (take-append-drop n e.others))
    ∙ flat_map-append other_spelling before after
    ∙ ap (λ ps. flat_map other_spelling before ++ ps) (sym (append-nil (flat_map other_spelling after)))
    ∙ parts_pieces e before after [] [] [] (λ bs. split_there bs e.others) t u x

-- a part without pieces
pub none_there : (ps : List Text) → is_there ps ≡ false → [] ≡ ps
none_there [] h = refl
none_there (p ∷ ps) h = cc
