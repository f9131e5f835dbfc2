-- What the readers of attributes, of keywords and of what follows `u` answer, by cases on the whole
-- answer.
use Rattle.std.specs.Prelude.{◌≡◌, ⊤, ◌<◌, true, List, length, nat_lt, Bool, Result}
use Rattle.std.specs.List.{list_any}
use Rattle.iloc_spec_grammar.specs.Syntax.{Text, Fields}
use Rattle.iloc_spec_grammar.specs.Meaning.{normal_values, normal_fields}
use Rattle.iloc_spec_parts.specs.Fronts.{attributes_read, KeywordsRead, KeywordsFault, keywords_kept}
use Rattle.iloc_spec_parts.specs.Parts.{AttributesText, KeywordsText, KeywordsTextFault}
use Rattle.iloc_subtags.specs.declared.parse_error.ParseError.{ParseError}
use Rattle.iloc_subtags.specs.Judging.{Answers}

-- the field has more than four subtags besides `true`
abbrev pub has_many_values : Text × List Text → Bool
has_many_values (_, ws) = nat_lt 4 (length (normal_values ws))

-- for what memory may run out: more than four different attributes
abbrev pub AttributesWantMemory : List Text → Type 0
AttributesWantMemory ps = 4 < length (attributes_read ps)

-- for what memory may run out: before a bad key, a second key or a fifth subtag
pub data KeywordsWantMemory (ps : List Text) : Type 0 where
  second_key : 1 < length (normal_fields (keywords_kept ps)) → KeywordsWantMemory ps
  fifth_value : list_any has_many_values (keywords_kept ps) ≡ true → KeywordsWantMemory ps

-- of the pieces ps, keywords were read, and rest is left
abbrev pub KeywordsReads : List Text → List Text → Result Fields ParseError → Type 0
KeywordsReads ps rest = Answers (λ m. KeywordsRead ps m rest) (KeywordsFault ps) ⊤

-- the same, and when memory may run out
abbrev pub KeywordsFills : List Text → List Text → Result Fields ParseError → Type 0
KeywordsFills ps rest = Answers (λ m. KeywordsRead ps m rest)
    (KeywordsFault ps) (KeywordsWantMemory ps)

-- the text is read as attributes: the longest front of them, as a set
abbrev pub AttributesTextReads : Text → Result (List Text) ParseError → Type 0
AttributesTextReads t = Answers (AttributesText t) (λ f. ⊥) ⊤

-- the text is read as keywords
abbrev pub KeywordsTextReads : Text → Result Fields ParseError → Type 0
KeywordsTextReads t = Answers (KeywordsText t) (KeywordsTextFault t) ⊤
