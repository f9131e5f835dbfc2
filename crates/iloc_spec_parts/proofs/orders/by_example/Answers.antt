-- By computing each.
use Rattle.std.proofs.Common.{arith}
use Rattle.std.specs.Hash.{le_bytes}
use Rattle.iloc_spec_grammar.specs.Syntax.{pieces, is_word, lower, upper, title, is_true, languages}
use Rattle.iloc_spec_grammar.specs.Reading.{identifier_of, unicode_of, transform_of, written_of}
use Rattle.iloc_spec_parts.proofs.orders.by_example.Goals as goal

pub returns : goal.returns
unfolding le_bytes written_of unicode_of transform_of identifier_of pieces is_word lower upper title is_true
    languages
returns c = grind arith
