-- The pieces that keywords and the extension print.
use Rattle.std.proofs.Common.{◌≡◌, ℕ, suc, ◌+◌, Bool, true, false, not, cond, ◌&&◌, ◌==◌, List, [], ◌∷◌, length, refl, sym, ap, ◌∙◌, arith, nat_lt}
use Rattle.std.proofs.lemmas.Bool.Decides.{nat_tests}
use Rattle.iloc_spec_grammar.specs.Syntax.{code_u, Text, Fields, Unicode, fields_pieces, unicode_pieces}
use Rattle.iloc_spec_grammar.specs.Values.{unicode_spelling}
use Rattle.iloc_spec_grammar.proofs.PartTexts.{unicode_spelling_is}
use Rattle.iloc_writeable.specs.Pieces.{hyphened, is_there}

some : (n : ℕ) → not (suc n == 0) ≡ true
some n = grind (arith, nat_tests)

pub fields_there : (fs : Fields) → not (length fs == 0) ≡ is_there (fields_pieces fs)
fields_there [] = refl
fields_there (f ∷ fs) = some (length fs)

-- whether both parts are empty
abbrev empty : Unicode → Bool
empty u = (length u.attributes == 0) && (length u.keywords == 0)

empty_test : (m n : ℕ) → nat_lt 0 (m + n) ≡ not ((m == 0) && (n == 0))
empty_test m n = grind (arith, nat_tests)

spelling_by : (u : Unicode) → unicode_spelling u ≡ cond (not (empty u)) ((code_u ∷ []) ∷ unicode_pieces u) []
spelling_by u = unicode_spelling_is u
    ∙ ap (λ b. cond b ((code_u ∷ []) ∷ unicode_pieces u) [])
    (empty_test (length u.attributes) (length u.keywords))

there_by : (b : Bool) (p : Text) (ps : List Text) → is_there (cond b (p ∷ ps) []) ≡ b
there_by true p ps = refl
there_by false p ps = refl

pub unicode_there : (u : Unicode) → not (empty u) ≡ is_there (unicode_spelling u)
unicode_there u =
    sym (ap is_there (spelling_by u) ∙ there_by (not (empty u)) (code_u ∷ []) (unicode_pieces u))

pub unicode_none : (first : Bool) (u : Unicode) → empty u ≡ true → [] ≡ hyphened first (unicode_spelling u)
unicode_none first u h = none first
    ∙ ap (hyphened first)
    (sym (spelling_by u ∙ ap (λ b. cond (not b) ((code_u ∷ []) ∷ unicode_pieces u) []) h))
  where
    none : (first : Bool) → [] ≡ hyphened first []
    none true = refl
    none false = refl

pub unicode_some : (u : Unicode) → empty u ≡ false → (code_u ∷ []) ∷ unicode_pieces u ≡ unicode_spelling u
unicode_some u h = sym (spelling_by u ∙ ap (λ b. cond (not b) ((code_u ∷ []) ∷ unicode_pieces u) []) h)
