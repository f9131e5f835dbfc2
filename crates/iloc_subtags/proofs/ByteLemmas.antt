-- What a take of a piece of one byte tells.
use Rattle.std.proofs.Common.{◌≡◌, ℕ, true, List, [], ◌∷◌, length, refl, sym, ap, ◌∙◌, Some, None, true≢false}
use Rattle.iloc_spec_grammar.specs.Reading.{rest_of, starts_block}
use Rattle.iloc_spec_grammar.proofs.Singletons.{two_more}
use Rattle.iloc_subtags.specs.NextPiece.{byte_at}
use Rattle.iloc_spec_grammar.specs.Syntax.{Text}

-- the piece stands first, and the others are left
pub byte_first : (ps rest : List Text) (b : ℕ) → Some b ≡ byte_at ps → rest ≡ rest_of ps →
    ps ≡ (b ∷ []) ∷ rest
byte_first [] rest b e r = absurd (cc)
byte_first ([] ∷ ps) rest b e r = absurd (cc)
byte_first ((c ∷ []) ∷ ps) rest b e r =
    let same : c ≡ b = cc in ap (λ n. (n ∷ []) ∷ ps) same ∙ ap (λ l. (b ∷ []) ∷ l) (sym r)
byte_first ((c ∷ d ∷ p) ∷ ps) rest b e r = absurd (cc)

-- if none is there where a part ends, nothing is left
pub no_byte : (ps : List Text) → starts_block ps ≡ true → None ≡ byte_at ps → ps ≡ []
no_byte [] s e = refl
no_byte ([] ∷ ps) s e = absurd (true≢false (sym s))
no_byte ((c ∷ []) ∷ ps) s e = absurd (cc)
no_byte ((c ∷ d ∷ p) ∷ ps) s e = absurd (true≢false (sym s ∙ two_more (length p)))
