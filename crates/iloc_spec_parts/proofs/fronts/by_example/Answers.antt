-- By computing each.
use Rattle.std.proofs.Common.{arith}
use Rattle.iloc_spec_grammar.specs.Syntax.{pieces, join, is_word, lower, upper, title, is_true, languages}
use Rattle.iloc_spec_grammar.specs.Reading.{front_of, after_front}
use Rattle.iloc_spec_parts.specs.Fronts.{unicode_result, transform_result, other_result, private_result}
use Rattle.iloc_spec_parts.proofs.fronts.by_example.Goals as goal

pub returns : goal.returns
unfolding unicode_result transform_result other_result private_result front_of after_front pieces join is_word
    lower upper title is_true languages
returns c = grind arith
