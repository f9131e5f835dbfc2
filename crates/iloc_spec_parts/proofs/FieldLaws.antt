-- Fields that are read from the left.
use Rattle.std.proofs.Common.{arith, ◌≡◌, Bool, true, false, List, [], ◌∷◌, ◌++◌, refl}
use Rattle.std.specs.List.{AllByRecursion}
use Rattle.std.proofs.lemmas.Bool.{cond_both}
use Rattle.iloc_spec_grammar.specs.Syntax.{Text, Fields, fields_pieces}
use Rattle.iloc_spec_grammar.specs.Reading.{passing, past, EndsBefore, before_key, fields_from}
use Rattle.iloc_spec_grammar.proofs.ReadBack.{all_append}
use Rattle.iloc_spec_grammar.proofs.Readings.{fields_all}
use Rattle.iloc_spec_parts.specs.Fronts.{passing_from, past_from}
use Rattle.iloc_spec_grammar.proofs.ReadingLaws.{all_while}

-- fronts

pub passing_all : (test : Text → Bool) (ps : List Text) →
    AllByRecursion (λ p. test p ≡ true) (passing test ps)
passing_all test [] = tt
passing_all test (p ∷ ps) = grind (arith, cond_both, passing_all test ps)

pub passing_stops : (test : Text → Bool) (xs ys : List Text) → AllByRecursion (λ p. test p ≡ true) xs →
    EndsBefore test ys → passing test (xs ++ ys) ≡ xs
passing_stops test [] [] h s = refl
passing_stops test [] (y ∷ ys) h s = rw s refl
passing_stops test (x ∷ xs) ys h s = search (passing_stops test xs ys h.1 s)

pub past_stops : (test : Text → Bool) (xs ys : List Text) → AllByRecursion (λ p. test p ≡ true) xs →
    EndsBefore test ys → past test (xs ++ ys) ≡ ys
past_stops test [] [] h s = refl
past_stops test [] (y ∷ ys) h s = rw s refl
past_stops test (x ∷ xs) ys h s = rw h.0 (past_stops test xs ys h.1 s)

pub all_from_pieces : (first test : Text → Bool) (ps : List Text) →
    passing_from first test ps ++ past_from first test ps ≡ ps
all_from_pieces first test ps = grind (arith, all_while)

pub passing_from_all : (first test : Text → Bool) (ps : List Text) →
    AllByRecursion (λ p. test p ≡ true) (passing_from first test ps)
passing_from_all first test ps = grind (arith, cond_both, passing_all)

-- fields

-- a front that begins with a key is its fields
before_first_key : (key test : Text → Bool) (ps : List Text) →
    before_key key (passing_from key test ps) ≡ []
before_first_key key test [] = grind (arith, cond_both)
before_first_key key test (p ∷ ps) = grind (arith, cond_both)

pub front_of_fields : (key test : Text → Bool) (ps : List Text) →
    passing_from key test ps ≡ fields_pieces (fields_from key (passing_from key test ps))
front_of_fields key test ps = grind (arith, fields_all, before_first_key)

-- the keys and the values among pieces of which each is the one or the other
pub fields_words : (key : Text → Bool) (K V : Text → Type 0) (ps : List Text) →
    AllByRecursion (λ p. (key p ≡ true → K p) × (key p ≡ false → V p)) ps →
    AllByRecursion V (before_key key ps)
    × AllByRecursion (λ f. K f.0 × AllByRecursion V f.1) (fields_from key ps)
fields_words key K V [] h = (tt, tt)
fields_words key K V (p ∷ ps) h = grind (arith, fields_words key K V ps h.1)

-- a front of fields, where it stops
pub fields_stop : (key test : Text → Bool) (fs : Fields) (rest : List Text) →
    AllByRecursion (λ p. test p ≡ true) (fields_pieces fs) → AllByRecursion (λ f. key f.0 ≡ true) fs →
    EndsBefore test rest → EndsBefore key rest → key [] ≡ false →
    (passing_from key test (fields_pieces fs ++ rest) ≡ fields_pieces fs)
    × (past_from key test (fields_pieces fs ++ rest) ≡ rest)
fields_stop key test [] [] h k s n e = (rw e refl, rw e refl)
fields_stop key test [] (p ∷ ps) h k s n e = (rw n refl, rw n refl)
fields_stop key test (f ∷ fs) rest h k s n e = grind (arith, passing_stops, past_stops)

pub pieces_pass : (test : Text → Bool) (fs : Fields) →
    AllByRecursion (λ f. (test f.0 ≡ true) × AllByRecursion (λ p. test p ≡ true) f.1) fs →
    AllByRecursion (λ p. test p ≡ true) (fields_pieces fs)
pieces_pass test [] h = tt
pieces_pass test (f ∷ fs) h = search (all_append, pieces_pass test fs h.1)
