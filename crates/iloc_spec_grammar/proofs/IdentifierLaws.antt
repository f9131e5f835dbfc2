-- The words of an identifier can be told apart: each spelling has one reading.
use Rattle.std.proofs.Common.{arith, ◌≡◌, ℕ, Bool, List, [], ◌∷◌, ◌++◌, refl, Option, Some, None, IfSome, option_to_list}
use Rattle.std.specs.List.{AllByRecursion}
use Rattle.iloc_spec_grammar.specs.Syntax.{Text, Script, Region, Variant, IsWord, SpelledIdentifier, Identifier, identifier_pieces, HasWords}
use Rattle.iloc_spec_grammar.specs.Reading.{take_first, skip_first, identifier_of}
use Rattle.iloc_spec_grammar.specs.Meaning.{IdentifierMeans}
use Rattle.iloc_spec_grammar.proofs.WordsLaws.{region_no_script, variant_no_script, variant_no_region}

pub all_pieces : (test : Text → Bool) (ps : List Text) →
    option_to_list (take_first test ps) ++ skip_first test ps ≡ ps
all_pieces test [] = refl
all_pieces test (p ∷ ps) = grind arith

-- reading loses nothing
pub pieces-identifier_of : (p : Text) (ps : List Text) →
    identifier_pieces (identifier_of (p ∷ ps)) ≡ p ∷ ps
unfolding identifier_of
pieces-identifier_of p ps = simp all_pieces

pub read_words : (l : Text) (s r : Option Text) (vs : List Text) → IfSome s (IsWord Script) →
    IfSome r (IsWord Region) → AllByRecursion (IsWord Variant) vs →
    identifier_of (l ∷ (option_to_list s ++ (option_to_list r ++ vs)))
    ≡ record { language = l; script = s; region = r; variants = vs }
unfolding identifier_of
read_words l None None [] hs hr hv = refl
read_words l None None (v ∷ vs) hs hr hv = rw (variant_no_script v hv.0, variant_no_region v hv.0)
read_words l None (Some r) vs hs hr hv = rw (region_no_script r hr, hr)
read_words l (Some s) None [] hs hr hv = rw hs
read_words l (Some s) None (v ∷ vs) hs hr hv = rw (hs, variant_no_region v hv.0)
read_words l (Some s) (Some r) vs hs hr hv = rw (hs, hr)

-- what is spelled is read
pub identifier_of-pieces : {T : ℕ → Bool} (i : SpelledIdentifier) → HasWords T i →
    identifier_of (identifier_pieces i) ≡ i
identifier_of-pieces i h = search read_words

pub one_identifier : {T : ℕ → Bool} (i j : SpelledIdentifier) → HasWords T i → HasWords T j →
    identifier_pieces i ≡ identifier_pieces j → i ≡ j
one_identifier i j h k e = grind (arith, identifier_of-pieces)

pub one_meaning : {T : ℕ → Bool} (ps : List Text) (a b : Identifier) → IdentifierMeans T ps a →
    IdentifierMeans T ps b → a ≡ b
one_meaning ps a b x y = grind (arith, one_identifier)
