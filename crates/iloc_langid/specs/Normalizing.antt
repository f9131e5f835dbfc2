-- What normalising an identifier's text answers.
use Rattle.std.specs.Prelude.{◌≡◌, ◌⊎◌, length}
use Rattle.iloc_spec_grammar.specs.Syntax.{Text, pieces, languages, Identifier}
use Rattle.iloc_spec_grammar.specs.Meaning.{IdentifierMeans}
use Rattle.iloc_spec_grammar.specs.Values.{identifier_text, IdentifierTextStep, IsNormalizedFrom}
use Rattle.iloc_langid.specs.Reads.{IdentifierWantsMemory}

-- t is the normal text of input as an identifier
pub record IsNormalizedIdentifier (input t : Text) : Type 0 where
  -- two steps at most, in case and in the order of variants, lead there
  pub is : IsNormalizedFrom (λ u. IdentifierMeans languages (pieces u)) identifier_text
      (IdentifierTextStep languages) 2 input t
  -- every text that means the same is as long
  pub long : (u : Text) (i : Identifier) → IdentifierMeans languages (pieces input) i
      → IdentifierMeans languages (pieces u) i → length u ≡ length t

-- memory may run out only if the reader may allocate, or if the input is accepted and isn't normal
abbrev pub NormalizingIdentifierWantsMemory : Text → Type 0
NormalizingIdentifierWantsMemory t = IdentifierWantsMemory (pieces t)
    ⊎ ((i : Identifier) × IdentifierMeans languages (pieces t) i × ¬ (t ≡ identifier_text i))
