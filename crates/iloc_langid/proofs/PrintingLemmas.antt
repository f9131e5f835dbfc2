-- What was printed means what it was printed from.
use Rattle.std.proofs.Common.{◌≡◌, IfOk, Result, arith}
use Rattle.iloc_spec_grammar.specs.Syntax.{Text, pieces, languages, Identifier}
use Rattle.iloc_spec_grammar.specs.Meaning.{IdentifierMeans}
use Rattle.iloc_spec_grammar.specs.Values.{IsIdentifierValue, identifier_text}
use Rattle.iloc_spec_grammar.proofs.IdentifierLaws.{one_meaning}
use Rattle.iloc_spec_grammar.proofs.IdentifierTexts.{identifier_text_means}
use Rattle.iloc_langid.specs.Reads.{IdentifierMeansOnly}

-- what holds of a text holds of what was printed, if that is the text
pub printed : {X E : Type 0} (bytes : X → Text) (P : Text → Type 0) (t : Text) (r : Result X E) →
    IfOk r (λ x. bytes x ≡ t) → P t → IfOk r (λ x. P (bytes x))
printed bytes P t r h k = grind arith

pub identifier_text_means_only : (i : Identifier) → IsIdentifierValue languages i →
    IdentifierMeansOnly (identifier_text i) i
identifier_text_means_only i v =
    let m : IdentifierMeans languages (pieces (identifier_text i)) i = identifier_text_means i v in
    (m, λ j n. one_meaning (pieces (identifier_text i)) j i n m)
