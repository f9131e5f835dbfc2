use Rattle.std.proofs.Common.{◌∙◌, ◌/◌, length, ap, arith}
use Rattle.std.proofs.lemmas.List.{take_rest}
use Rattle.std.specs.FinMap.{find}
use Rattle.iloc_spec_grammar.specs.Syntax.{word_cmp}
use Rattle.iloc_unicode.proofs.Halves.{in_lower, in_upper}
use Rattle.iloc_unicode.proofs.keywords.value_in_half.Goals as goal

pub returns-then-is_lt : goal.returns-then-is_lt
returns-then-is_lt c =
    c.value_among.ensures
    ∙ in_lower c.args.key.now c.args.pairs.now (length c.args.pairs.now / 2) c.index-pairs-middle.result
    c.cmp.result c.is_lt.result c.requires.ascending (omega (arith, c.requires.some)) c.cmp.ensures
    c.is_lt.ensures c.if-is_lt.true

pub returns-else-is_lt : goal.returns-else-is_lt
returns-else-is_lt c =
    c.value_among-else-is_lt.ensures
    ∙ (ap (find word_cmp c.args.key.now) (take_rest c.args.pairs.now (length c.args.pairs.now / 2))
    ∙ in_upper c.args.key.now c.args.pairs.now (length c.args.pairs.now / 2) c.index-pairs-middle.result
    c.cmp.result c.is_lt.result c.requires.ascending (omega (arith, c.requires.some)) c.cmp.ensures
    c.is_lt.ensures c.if-is_lt.false)
