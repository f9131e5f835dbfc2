-- The words of each refusal.
use Rattle.std.specs.Prelude.{codes}
use Rattle.iloc_spec_grammar.specs.Syntax.{Text}
use Rattle.iloc_subtags.specs.declared.parse_error.ParseError.{ParseError}
use Rattle.iloc_subtags.specs.declared.parse_error.ParseError.TheVariants.{InvalidLanguage, InvalidSubtag}
use Rattle.iloc_subtags.specs.declared.parse_error.ParseError.TheVariants.{InvalidExtension}
use Rattle.iloc_subtags.specs.declared.parse_error.ParseError.TheVariants.{DuplicatedExtension, OutOfMemory}

-- the words of a refusal
abbrev pub words_of : ParseError → Text
words_of InvalidLanguage = codes "The given language subtag is invalid"
words_of InvalidSubtag = codes "Invalid subtag"
words_of InvalidExtension = codes "Invalid extension"
words_of DuplicatedExtension = codes "Duplicated extension"
words_of OutOfMemory = codes "Out of memory"
