-- The words of each refusal.
use Rattle.std.specs.Prelude.{codes}
use Rattle.iloc_spec_grammar.specs.Syntax.{Text}
use Rattle.iloc_json.specs.declared.carry_error.CarryError.{CarryError}
use Rattle.iloc_json.specs.declared.carry_error.CarryError.TheVariants.{Length, Word, OutOfMemory}

-- the words of a refusal
abbrev pub words_of : CarryError → Text
words_of Length = codes "Length is not a multiple of three"
words_of (Word n) = codes "Invalid language word"
words_of OutOfMemory = codes "Out of memory"
