-- What emptying a list of a locale does.
use Rattle.std.specs.Prelude.{[]}
use Rattle.iloc_spec_grammar.specs.Meaning as meaning
use Rattle.iloc_handles.specs.declared.clearing.Clear.{Clear}
use Rattle.iloc_handles.specs.declared.clearing.Clear.TheVariants.{Variants, Attributes, Keywords, Fields}
use Rattle.iloc_handles.specs.Attributes.{with_attributes}
use Rattle.iloc_handles.specs.Finding.{Changing, Removes}
use Rattle.iloc_handles.specs.Identifier.{with_variants}
use Rattle.iloc_handles.specs.Keywords.{with_keywords}
use Rattle.iloc_handles.specs.Transform.{with_fields}

-- the locale without the list
abbrev pub without : Clear → meaning.Locale → meaning.Locale
without Variants M = with_variants [] M
without Attributes M = with_attributes [] M
without Keywords M = with_keywords [] M
without Fields M = with_fields [] M

-- nothing is left of it
abbrev pub Clears : Clear → Changing
Clears c = Removes (λ M. Unit {0}) (without c)
