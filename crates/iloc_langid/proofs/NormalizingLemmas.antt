-- The normal text of an identifier.
use Rattle.std.proofs.Common.{◌≡◌, ◌≤◌, false, true, length, sym, ap, ◌∙◌, subst, arith}
use Rattle.iloc_spec_grammar.specs.Syntax.{Text, pieces, languages, Identifier}
use Rattle.iloc_spec_grammar.specs.Meaning.{IdentifierMeans}
use Rattle.iloc_spec_grammar.specs.Values.{identifier_text, IdentifierTextStep, Leads}
use Rattle.iloc_spec_grammar.proofs.IdentifierLaws.{one_meaning}
use Rattle.iloc_spec_grammar.proofs.IdentifierTexts.{identifier_means_again, same_identifier_meaning}
use Rattle.iloc_spec_grammar.proofs.AnySteps.{length-identifier_means, identifier_chain_to_text, identifiers_lead_to_one}
use Rattle.iloc_langid.specs.Normalizing.{IsNormalizedIdentifier, NormalizingIdentifierWantsMemory}
use Rattle.iloc_normalize.specs.Modes.{IsNormalText}
use Rattle.iloc_normalize.specs.NormalTexts.{IsNotNormal}
use Rattle.iloc_normalize.specs.declared.Mode.TheVariants.{Langid}

-- the text of the meaning is the normal text
pub is_normalized : (input : Text) (i : Identifier) (t : Text) →
    IdentifierMeans languages (pieces input) i → t ≡ identifier_text i → IsNormalizedIdentifier input t
is_normalized input i t m e =
    let as_long : (u : Text) (j : Identifier) → IdentifierMeans languages (pieces input) j
    → IdentifierMeans languages (pieces u) j → length u ≡ length t =
    λ u j mj mu.
    sym (length-identifier_means languages u j mu)
    ∙ ap length (sym (e ∙ ap identifier_text (one_meaning (pieces input) i j m mj))) in
    record {
      is = record {
        text_is = (i, m, e);
        again = (
          i,
          subst (λ u. IdentifierMeans languages (pieces u) i) (sym e)
              (identifier_means_again (pieces input) i m),
          e,
        );
        same = λ u j k mj mk.
            let by = same_identifier_meaning (pieces input) (pieces u) j k mj mk in
            let is : t ≡ identifier_text j = e ∙ ap identifier_text (one_meaning (pieces input) i j m mj) in
            (λ p. is ∙ by.0 p, λ p. by.1 (sym is ∙ p));
        shortest = λ u j mj mu. omega (arith, as_long u j mj mu);
        steps = subst (Leads (IdentifierTextStep languages) 2 input) (sym e)
            (identifier_chain_to_text languages input i m);
        together = λ u j k mj mk. identifiers_lead_to_one languages input u j k mj mk;
      };
      long = as_long;
    }

-- memory was refused for the text of another than the input
pub refuses_memory : (input : Text) (i : Identifier) → IdentifierMeans languages (pieces input) i →
    (input ≡ identifier_text i → false ≡ true) → NormalizingIdentifierWantsMemory input
refuses_memory input i m other = grind arith

-- what is answered without a value is normalized so
pub answered_text : (t u : Text) → IsNormalText languages Langid t u → IsNormalizedIdentifier t u
answered_text t u (i, m, e) = is_normalized t i u m e

pub answered_other : (t : Text) → IsNotNormal Langid t → NormalizingIdentifierWantsMemory t
answered_other t h = grind arith

-- no text that means something is shorter than its normal text
pub meant_within : (t : Text) (i : Identifier) → IdentifierMeans languages (pieces t) i →
    length (identifier_text i) ≤ length t
meant_within t i m = omega (arith, length-identifier_means languages t i m)

pub normal_within : (t u : Text) → IsNormalText languages Langid t u → length u ≤ length t
normal_within t u h = grind (arith, meant_within)
