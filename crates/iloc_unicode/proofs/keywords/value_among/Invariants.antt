use Rattle.std.proofs.Common.{◌≡◌, drop}
use Rattle.std.specs.FinMap as map
use Rattle.iloc_spec_grammar.specs.Syntax.{word_cmp}
use Rattle.iloc_unicode.proofs.keywords.value_among.Given as goal

-- the key is none of those before
abbrev pub invariant-loop-pair : goal.invariant-loop-pair
invariant-loop-pair l =
    map.find word_cmp l.fn.key (drop l.pair-index l.fn.pairs) ≡ map.find word_cmp l.fn.key l.fn.pairs
