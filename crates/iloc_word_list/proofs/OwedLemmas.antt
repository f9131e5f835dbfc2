-- What the reader of values owes to each text.
use Rattle.std.specs.Prelude.{⊤}
use Rattle.std.proofs.Common.{◌≡◌, List, Result, Ok, Err}
use Rattle.iloc_spec_grammar.specs.Meaning.{Fault}
use Rattle.iloc_subtags.specs.declared.parse_error.ParseError.{ParseError}
use Rattle.iloc_subtags.specs.Judging.{Accepts, Refuses}
use Rattle.iloc_subtags.proofs.Judged.{Judges, told, accepts, refuses}
use Rattle.iloc_spec_parts.specs.PartValues.{unicode_value}
use Rattle.iloc_word_list.specs.Reads.{ValueTextReads}
use Rattle.iloc_spec_grammar.specs.Syntax.{Text}

value_judges : (t : Text) → Judges (λ v. unicode_value t ≡ Ok v) (λ f. unicode_value t ≡ Err f)
value_judges t = told (unicode_value t)

pub value_accepts : (t : Text) (r : Result (List Text) ParseError) → ValueTextReads t r →
    (v : List Text) → unicode_value t ≡ Ok v → Accepts (λ v. v) ⊤ v r
value_accepts t r h = accepts (λ v. v) ⊤ (value_judges t) r h

pub value_refuses : (t : Text) (r : Result (List Text) ParseError) → ValueTextReads t r → (f : Fault) →
    unicode_value t ≡ Err f → Refuses ⊤ f r
value_refuses t r h = refuses (λ v. v) ⊤ (value_judges t) r h
