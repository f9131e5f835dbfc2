-- The keys of preferences, by name.
use Rattle.std.specs.Prelude.{codes}
use Rattle.iloc_spec_grammar.specs.Syntax.{Text}

abbrev pub sd : Text
sd = codes "sd"

abbrev pub rg : Text
rg = codes "rg"
