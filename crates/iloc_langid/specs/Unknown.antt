-- The unknown identifier.
use Rattle.std.specs.Prelude.{[], None, codes}
use Rattle.iloc_spec_grammar.specs.Syntax.{Identifier}

-- `und`, as UTS #35 writes the unknown language
abbrev pub unknown_identifier : Identifier
unknown_identifier = record { language = codes "und"; script = None; region = None; variants = [] }
