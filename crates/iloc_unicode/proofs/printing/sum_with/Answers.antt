use Rattle.std.proofs.Common.{◌≡◌, ◌∙◌, ◌+◌, ap, arith, length, drop, Some}
use Rattle.std.proofs.lemmas.List.{at_drop_all}
use Rattle.iloc_spec_grammar.specs.Syntax.{dashes}
use Rattle.iloc_unicode.proofs.LengthLemmas.{fits}
use Rattle.iloc_unicode.proofs.printing.sum_with.Goals as goal

pub returns : goal.returns
returns c =
    let none : length (dashes (drop c.loop-word.word-index c.args.words.now)) ≡ 0 =
    at_drop_all (λ ws. length (dashes ws)) c.args.words.now c.loop-word.word-index (omega arith) in
    let all : c.loop-word.sum ≡ c.args.before + c.args.more + length (dashes c.args.words.now) =
    omega (arith, none, c.loop-word.invariant.all) in
    ap Some all ∙ fits (c.args.before + c.args.more + length (dashes c.args.words.now))
    (omega (arith, all, c.loop-word.invariant.fits))
