-- How worked examples are written: a text means something whose normal text is another, or it is
-- refused.
use Rattle.std.specs.Prelude.{◌≡◌}
use Rattle.iloc_spec_grammar.specs.Syntax.{Text, pieces, languages, Identifier}
use Rattle.iloc_spec_grammar.specs.Meaning.{Locale, Means, IdentifierMeans, Fault, HasFault}
use Rattle.iloc_spec_grammar.specs.Meaning.{HasIdentifierFault}
use Rattle.iloc_spec_grammar.specs.Values.{text, identifier_text}

-- the text t is accepted, and u is the normal text of its meaning
pub record Normalises (t u : Text) : Type 0 where
  pub value : Locale
  pub means : Means languages t value
  pub printed : text value ≡ u

-- the text is refused with the fault
abbrev pub IsRefused : Text → Fault → Type 0
IsRefused t f = HasFault languages t f

-- the same for identifiers

-- the text means an identifier whose text is u
pub record NormalisesIdentifier (t u : Text) : Type 0 where
  pub value : Identifier
  pub means : IdentifierMeans languages (pieces t) value
  pub printed : identifier_text value ≡ u

-- the text has the fault as an identifier
abbrev pub IsRefusedIdentifier : Text → Fault → Type 0
IsRefusedIdentifier t f = HasIdentifierFault languages (pieces t) f
