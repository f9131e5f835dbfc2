-- What the reader of all blocks answers, by cases on the whole answer.
use Rattle.std.specs.Prelude.{List, Result}
use Rattle.iloc_spec_grammar.specs.Syntax.{Text, languages, blocks}
use Rattle.iloc_spec_grammar.specs.Meaning.{Extensions, BlocksMean, HasBlockFault}
use Rattle.iloc_spec_parts.specs.Inline.{ReachesLongBlock}
use Rattle.iloc_subtags.specs.declared.parse_error.ParseError.{ParseError}
use Rattle.iloc_subtags.specs.Judging.{Answers}

-- The blocks of the pieces mean the extensions e, or the first bad one has the fault; memory
-- may run out only if a block is reached that isn't short.
abbrev pub BlocksReads : List Text → Extensions → Result (Unit {0}) ParseError → Type 0
BlocksReads ps e = Answers (λ _. BlocksMean languages (blocks ps) e)
    (HasBlockFault languages (blocks ps)) (ReachesLongBlock languages (blocks ps))
